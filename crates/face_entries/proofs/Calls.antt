-- What the calls of `enter` and `put_behind` come to. Assumes nothing.
use Prim.Native.Nat.{ℕ, zero, suc, ◌+◌, ◌*◌, ◌-◌, ◌≤◌, ◌<◌}
use native.Mathlib.Omega.{arith}
use native.Mathlib.Numerals.{add-one}
use mathlib.Core.Bool.{Bool, true, false, cond}
use mathlib.Core.List.{List}
use mathlib.Core.Logic.{◌≢◌}
use mathlib.Core.Path.{◌≡◌, refl, ap, ◌∙◌}
use borrow.Author.Tests.{lt-ltb, le-ltb}
use lib.Dec.{ltb}
use lib.ListN.{length, set}
use Rattle.buffers.specs.declared.Lack.{Lack}
use Rattle.buffers.specs.declared.Lack.TheVariants.{Entries}
use Rattle.buffers.specs.Lack.{lack_number}
use Rattle.chains.specs.Chains.{link_in}
use Rattle.face_entries.specs.declared.PiecePart.{PiecePart}
use Rattle.std.specs.declared.result.Result.{Result}
use Rattle.std.specs.declared.result.Result.TheVariants.{Ok, Err}
use Rattle.layout.specs.Layout.{words_per_triangle, triangle_first_entry, triangle_last_entry, words_per_entry, entry_link}
use Rattle.face_entries.specs.Buffers.{EntryBuffers, entry_buffers, entry_capacity, last_entry_of, stored_in, linked_in, entered_in, entering, entered_number}

module _ (b : EntryBuffers) (f : ℕ) where
  pub put_first : (last link : ℕ) (t t' : List ℕ) → last ≡ 0 → t ≡ set b.triangles (words_per_triangle * f + triangle_last_entry) link → t' ≡ set t (words_per_triangle * f + triangle_first_entry) link
      → entry_buffers t' b.words ≡ linked_in b f last link
  unfolding linked_in
  put_first last link t t' z d e = rw z (ap (λ (l : List ℕ). entry_buffers l b.words) (e ∙ ap (λ (l : List ℕ). set l (words_per_triangle * f + triangle_first_entry) link) d))

  pub put_next : (last link : ℕ) (t w : List ℕ) → last ≢ 0 → t ≡ set b.triangles (words_per_triangle * f + triangle_last_entry) link → w ≡ set b.words (words_per_entry * (last - 1) + entry_link) link
      → entry_buffers t w ≡ linked_in b f last link
  unfolding linked_in
  put_next zero link t w n d e = absurd (n refl)
  put_next (suc k) link t w n d e =
      let z : suc k - 1 ≡ k = omega arith in
      λ i. entry_buffers (d i) ((e ∙ ap (λ (j : ℕ). set b.words (words_per_entry * j + entry_link) link) z) i)

module _ (b : EntryBuffers) (count f : ℕ) (x : PiecePart) where
  pub enter_full : entry_capacity (length b.words) ≤ count → (Err Entries, b) ≡ entering b count f x
  unfolding entering
  enter_full h = rw (le-ltb count (entry_capacity (length b.words)) h) refl

  pub enter_done : (w : List ℕ) (read last : ℕ) (b' : EntryBuffers) → count < entry_capacity (length b.words) → w ≡ stored_in b.words count x → read ≡ last_entry_of b.triangles f
      → last ≡ link_in count read → b' ≡ linked_in (entry_buffers b.triangles w) f last (count + 1) → (Ok (count + 1), b') ≡ entering b count f x
  unfolding entering entered_in
  enter_done w read last b' h d r l e =
      rw (lt-ltb count (entry_capacity (length b.words)) h)
      (λ i. (
        Ok (add-one count i),
        (e ∙ (λ j. linked_in (entry_buffers b.triangles (d j)) f ((l ∙ ap (link_in count) r) j) (add-one count j))) i,
      ))

  refusal : entered_number (entering b count f x).0 ≡ cond (ltb count (entry_capacity (length b.words))) 0 (lack_number Entries)
  unfolding entering
  refusal = go (ltb count (entry_capacity (length b.words))) where
    go : (c : Bool) → entered_number (cond {A = Result ℕ Lack × EntryBuffers} c (Ok (suc count), entered_in b count f x) (Err Entries, b)).0 ≡ cond c 0 (lack_number Entries)
    go true = refl
    go false = refl

  pub enter_said : {r : Result ℕ Lack} {p : EntryBuffers} → (r, p) ≡ entering b count f x
      → ((r, p) ≡ entering b count f x) × (entered_number r ≡ cond (ltb count (entry_capacity (length b.words))) 0 (lack_number Entries))
  enter_said h = (h, ap (λ (a : Result ℕ Lack × EntryBuffers). entered_number a.0) h ∙ refusal)
