-- What a caller of `enter` has of its contract, by the answer. Assumes nothing.
use Prim.Native.Nat.{ℕ, suc, ◌+◌, ◌*◌, ◌≤◌, ◌<◌}
use native.Mathlib.Omega.{arith}
use mathlib.Core.Bool.{Bool, true, false, cond}
use mathlib.Core.List.{List, [], ◌∷◌, ◌++◌}
use mathlib.Core.Path.{◌≡◌, refl, sym, ap, subst, ◌∙◌}
use borrow.Author.Tests.{ltb-true, ltb-false}
use lib.Dec.{ltb}
use lib.ListN.{length, get_or}
use Rattle.mesh.specs.Topology.{MeshBuffers, mesh_buffers}
use Rattle.mesh.specs.Held.{Worked}
use Rattle.face_entries.specs.declared.PiecePart.{PiecePart}
use Rattle.buffers.specs.declared.Lack.{Lack}
use Rattle.buffers.specs.declared.Lack.TheVariants.{Entries}
use Rattle.std.specs.declared.result.Result.{Result}
use Rattle.std.specs.declared.result.Result.TheVariants.{Ok, Err}
use Rattle.layout.specs.Layout.{words_per_triangle, triangle_last_entry}
use Rattle.face_entries.specs.Buffers.{EntryBuffers, entry_buffers, entry_capacity, entered_in, entering}
use Rattle.face_entries.specs.Entries.{FaceEntry, HoldsEntries, HoldsOnly}
use Rattle.face_entries.proofs.Keeping.{enter_others, enter_held, enter_only}

module _ (b p : EntryBuffers) (count f : ℕ) (x : PiecePart) (r : Result ℕ Lack) (said : (r, p) ≡ entering b count f x) where
  pub was_free : (n : ℕ) → r ≡ Ok n → (n ≡ suc count) × ((p ≡ entered_in b count f x) × (count < entry_capacity (length b.words)))
  unfolding entering
  was_free n e = go (ltb count (entry_capacity (length b.words))) refl said where
    go : (c : Bool) → ltb count (entry_capacity (length b.words)) ≡ c → (r, p) ≡ cond {A = Result ℕ Lack × EntryBuffers} c (Ok (suc count), entered_in b count f x) (Err Entries, b)
        → (n ≡ suc count) × ((p ≡ entered_in b count f x) × (count < entry_capacity (length b.words)))
    go true h s =
        let a : r ≡ Ok (suc count) = ap (λ (q : Result ℕ Lack × EntryBuffers). q.0) s in
        let m : n ≡ suc count = cc in
        (m, (ap (λ (q : Result ℕ Lack × EntryBuffers). q.1) s, ltb-true count (entry_capacity (length b.words)) h))
    go false h s =
        let a : r ≡ Err Entries = ap (λ (q : Result ℕ Lack × EntryBuffers). q.0) s in
        let z : ◌≡◌ {A = ℕ} 0 1 = cc in
        absurd (omega (arith, z))

  pub was_full : (lack : Lack) → r ≡ Err lack → (lack ≡ Entries) × ((p ≡ b) × (entry_capacity (length b.words) ≤ count))
  unfolding entering
  was_full lack e = go (ltb count (entry_capacity (length b.words))) refl said where
    go : (c : Bool) → ltb count (entry_capacity (length b.words)) ≡ c → (r, p) ≡ cond {A = Result ℕ Lack × EntryBuffers} c (Ok (suc count), entered_in b count f x) (Err Entries, b)
        → (lack ≡ Entries) × ((p ≡ b) × (entry_capacity (length b.words) ≤ count))
    go true h s =
        let a : r ≡ Ok (suc count) = ap (λ (q : Result ℕ Lack × EntryBuffers). q.0) s in
        let z : ◌≡◌ {A = ℕ} 0 1 = cc in
        absurd (omega (arith, z))
    go false h s =
        let a : r ≡ Err Entries = ap (λ (q : Result ℕ Lack × EntryBuffers). q.0) s in
        let m : lack ≡ Entries = cc in
        (m, (ap (λ (q : Result ℕ Lack × EntryBuffers). q.1) s, ltb-false count (entry_capacity (length b.words)) h))

module _ (t w t' w' : List ℕ) (count f : ℕ) (x : PiecePart) (r : Result ℕ Lack) (said : (r, entry_buffers t' w') ≡ entering (entry_buffers t w) count f x) where
  module _ (n : ℕ) (e : r ≡ Ok n) (there : words_per_triangle * f + triangle_last_entry < length t) (xs : List FaceEntry) where
    abbrev more : List FaceEntry
    more = xs ++ (record { face = f; entry = x } ∷ [])

    pub call_held : HoldsEntries count t w xs → HoldsEntries n t' w' more
    call_held h =
        let s = was_free (entry_buffers t w) (entry_buffers t' w') count f x r said n e in
        subst (λ (m : ℕ). HoldsEntries m t' w' more) (sym s.0)
        (subst (λ (q : EntryBuffers). HoldsEntries (suc count) q.triangles q.words more) (sym s.1.0) (enter_held count t w xs f x s.1.1 there h))

    pub call_only : (t₀ : List ℕ) → HoldsOnly t₀ count t w xs → HoldsOnly t₀ n t' w' more
    call_only t₀ h =
        let s = was_free (entry_buffers t w) (entry_buffers t' w') count f x r said n e in
        subst (λ (m : ℕ). HoldsOnly t₀ m t' w' more) (sym s.0)
        (subst (λ (q : EntryBuffers). HoldsOnly t₀ (suc count) q.triangles q.words more) (sym s.1.0) (enter_only count t w xs f x s.1.1 there t₀ h))

-- whatever it answers, it keeps the mesh (`held_kept` of mesh)
pub worked_enter : (m : MeshBuffers) (w t' w' : List ℕ) (count f : ℕ) (x : PiecePart) (r : Result ℕ Lack) → (r, entry_buffers t' w') ≡ entering (entry_buffers m.triangle_words_held w) count f x
    → Worked m (mesh_buffers m.vertex_words_held m.edge_words_held m.edge_reals_held m.round t' m.triangle_reals)
worked_enter m w t' w' count f x r said =
    record {
      vertex_words_held = refl;
      edge_words_held = λ i ne. refl;
      edge_reals_held = refl;
      round = refl;
      triangle_words_held = λ i ne. ap (λ (q : Result ℕ Lack × EntryBuffers). get_or q.1.triangles i 0) said ∙ enter_others (entry_buffers m.triangle_words_held w) count f x i ne;
      triangle_reals = refl;
    }
