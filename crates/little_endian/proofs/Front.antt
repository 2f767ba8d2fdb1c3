-- Lists that are written from their front on. Assumes nothing.
use Prim.Native.Nat.{ℕ, ◌+◌, ◌≤◌, ◌<◌}
use native.Mathlib.Omega.{arith}
use native.Mathlib.Numerals.{add-one}
use mathlib.Core.List.{List, [], ◌∷◌, ◌++◌}
use mathlib.Core.Path.{◌≡◌, refl, sym, ap, ◌∙◌}
use lib.ListN.{length, drop, set, length-append, length-drop}
use lib.Seq.{sets, sets-eq, take_at, drop-drop, drop-append-add}
use Rattle.nat_laws.specs.Lists.{list_of}
use Rattle.nat_laws.proofs.Lists.{length_list_of}
use Rattle.little_endian.specs.Bytes.{put_in_front}

module _ {A : Type 0} where
  pub front_none : (l : List A) → l ≡ put_in_front [] l
  unfolding put_in_front
  front_none l = refl

  -- what is written behind the front becomes its end
  pub front_more : (xs vs l : List A) (n : ℕ) → length xs ≡ n → n + length vs ≤ length l → sets (put_in_front xs l) n vs ≡ put_in_front (xs ++ vs) l
  unfolding put_in_front
  front_more xs vs l n e h =
      let fits : n + length vs ≤ length (xs ++ drop (length xs) l) = simp (length-append, length-drop) (omega arith) in
      let rest : drop (n + length vs) (xs ++ drop (length xs) l) ≡ drop (length (xs ++ vs)) l =
      ap (λ k. drop (k + length vs) (xs ++ drop (length xs) l)) (sym e) ∙ drop-append-add xs (drop (length xs) l) (length vs) ∙ drop-drop (length vs) (length xs) l ∙ ap (λ k. drop k l) (sym (length-append xs vs)) in
      sets-eq vs (xs ++ drop (length xs) l) n fits ∙ ap (λ t. t ++ vs ++ drop (n + length vs) (xs ++ drop (length xs) l)) (take_at xs (drop (length xs) l) n e)
      ∙ ap (λ t. (xs ++ vs) ++ t) rest

  -- one element more
  pub front_next : (f : ℕ → A) (l m : List A) (j : ℕ) (v : A) → v ≡ f j → j < length l → m ≡ put_in_front (list_of j f) l → set m j v ≡ put_in_front (list_of (j + 1) f) l
  unfolding list_of
  front_next f l m j v ev h e = rw (e, ev, add-one) (front_more (list_of j f) (f j ∷ []) l j (length_list_of j f) (omega arith))
