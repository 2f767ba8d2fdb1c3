-- The ways that the move of a whole slip can go. Assumes nothing.
use Prim.Native.Nat.{ℕ, ◌<◌, ◌≤◌}
use native.Mathlib.Nat.{zero-add}
use native.Mathlib.Omega.{arith}
use mathlib.Core.Path.{◌≡◌, refl, sym, ◌∙◌}
use mathlib.Core.List.{List}
use borrow.Author.Tests.{lt-ltb, le-ltb}
use lib.ListN.{length}
use Rattle.std.specs.Prelude.{Result, Ok, Err}
use Rattle.groups.specs.declared.Form.{Form}
use Rattle.little_endian.specs.Bytes.{put_in_front}
use Rattle.slip_write.proofs.Room.{at_front}
use Rattle.slip_moves.specs.declared.Refusal.{Refusal}
use Rattle.slip_moves.specs.declared.MoveRefusal.TheVariants.{NoRoom, Slip}
use Rattle.slip_moves.specs.Moves.{Part, put, stop, also, then, counted, form_head_at, head_bytes, body_moved, ended, behind_head, slip_moved, answer_of_move, Moves}
use Rattle.slip_moves.proofs.Parts.{no_step, same_places}

module _ (from to : Form) (s : List ℕ) where
  pub refused_head : {why : Refusal} → form_head_at from s ≡ Err why → slip_moved from to s ≡ stop why
  unfolding slip_moved behind_head
  refused_head e = rw e

  pub counted_head : {v t p i : ℕ} → form_head_at from s ≡ counted v t p i → slip_moved from to s ≡ also (head_bytes to v t p) (then (body_moved from to s v t p i) (ended s))
  unfolding slip_moved behind_head
  counted_head e = rw e

-- the answer after the first pass, which told r, and after the second
module _ {none none' : List ℕ} {r : Result (ℕ × ℕ) Refusal} (out : List ℕ) where
  pub refused : {why : Refusal} (x : Part) → Moves none 0 x none' r → r ≡ Err why → (Err (Slip why), out) ≡ answer_of_move x out
  unfolding answer_of_move
  refused (put j bs) h e = no_step (sym (h.went j bs refl).0 ∙ e)
  refused {why} (stop w) h e = let ew : why ≡ w = cc (sym e ∙ h.stopped w refl) in λ t. (Err (Slip (ew t)), out)

  pub no_room : {j n : ℕ} (x : Part) → Moves none 0 x none' r → r ≡ Ok (j, n) → length out < n → (Err (NoRoom n), out) ≡ answer_of_move x out
  unfolding answer_of_move
  no_room (stop w) h e l = no_step (sym e ∙ h.stopped w refl)
  no_room {j} {n} (put i bs) h e l =
      let size : n ≡ length bs = (same_places (sym e ∙ (h.went i bs refl).0)).1 ∙ zero-add (length bs) in
      rw (lt-ltb (length out) (length bs) (omega (arith, l, size)), size)

  pub done : {j n : ℕ} {m : List ℕ} {r' : Result (ℕ × ℕ) Refusal} (x : Part) → Moves none 0 x none' r → r ≡ Ok (j, n) → n ≤ length out → Moves out 0 x m r' → (Ok n, m) ≡ answer_of_move x out
  unfolding answer_of_move
  done (stop w) h e l g = no_step (sym e ∙ h.stopped w refl)
  done {j} {n} {m} {r'} (put i bs) h e l g =
      let size : n ≡ length bs = (same_places (sym e ∙ (h.went i bs refl).0)).1 ∙ zero-add (length bs) in
      let front : m ≡ put_in_front bs out = at_front {l = out} {x = bs} (record { holds = (g.went i bs refl).1; ends = refl }) (omega (arith, l, size)) in
      rw (le-ltb (length out) (length bs) (omega (arith, l, size))) (λ t. (Ok (size t), front t))

  -- what the first pass moves the second does
  pub no_second_refusal : {A : Type 0} {j n : ℕ} {m : List ℕ} {r' : Result (ℕ × ℕ) Refusal} {why : Refusal} (x : Part) → Moves none 0 x none' r → r ≡ Ok (j, n) → Moves out 0 x m r' → r' ≡ Err why → A
  no_second_refusal (stop w) h e g q = no_step (sym e ∙ h.stopped w refl)
  no_second_refusal (put i bs) h e g q = no_step (sym (g.went i bs refl).0 ∙ q)
