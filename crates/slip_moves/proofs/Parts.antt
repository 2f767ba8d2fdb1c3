-- Parts moved one behind the other. Assumes nothing.
-- `Far l o whole rest m p`: of `whole`, moved to place o of l, what is left to move is `rest`; the list is m by now and the next place p. Each step of a
-- function takes it on by one part, and a stop or the last part ends it in what the contract asks.
use Prim.Native.Nat.{ℕ, ◌+◌}
use native.Mathlib.Nat.{add-zero}
use native.Mathlib.Omega.{arith}
use mathlib.Core.Path.{◌≡◌, refl, sym, ap, ◌∙◌}
use mathlib.Core.List.{List, [], ◌++◌, append_assoc}
use lib.ListN.{length, length-append}
use Rattle.std.specs.Prelude.{Result, Ok, Err}
use lib.Seq.{sets}
use Rattle.text_out.specs.Text.{Puts}
use Rattle.text_out.proofs.Puts.{sets_append}
use Rattle.slip_moves.specs.declared.Refusal.{Refusal}
use Rattle.slip_moves.specs.Moves.{Part, put, stop, also, then, Moves}

pub also_none : (x : Part) → also [] x ≡ x
unfolding also
also_none (put j more) = refl
also_none (stop r) = refl

pub also_also : (a b : List ℕ) (x : Part) → also a (also b x) ≡ also (a ++ b) x
unfolding also
also_also a b (put j more) = ap (put j) (sym (append_assoc a b more))
also_also a b (stop r) = refl

pub then_assoc : (x : Part) (k e : ℕ → Part) → then (then x k) e ≡ then x (λ j. then (k j) e)
unfolding then also
then_assoc (stop r) k e = refl
then_assoc (put j bs) k e = go (k j)
  where
    go : (y : Part) → then (also bs y) e ≡ also bs (then y e)
    go (stop r) = refl
    go (put l cs) = sym (also_also bs cs (e l))

pub record Far (l : List ℕ) (o : ℕ) (whole rest : Part) (m : List ℕ) (p : ℕ) : Type 0 where
  pub bytes : List ℕ
  pub so_far : whole ≡ also bytes rest
  pub holds : m ≡ sets l o bytes
  pub place : p ≡ o + length bytes

-- of two steps that are the same the places are
pub same_places : {a b j k : ℕ} → ◌≡◌ {A = Result (ℕ × ℕ) Refusal} (Ok (a, b)) (Ok (j, k)) → (a ≡ j) × (b ≡ k)
same_places e = let pair : ◌≡◌ {A = ℕ × ℕ} _ _ = cc e in (ap (λ (x : ℕ × ℕ). x.0) pair, ap (λ (x : ℕ × ℕ). x.1) pair)

pub behind_as : (j : ℕ) {a b : ℕ} → a ≡ b → ◌≡◌ {A = Result (ℕ × ℕ) Refusal} (Ok (j, a)) (Ok (j, b))
behind_as j e = λ t. Ok (j, e t)

pub no_step : {A : Type 0} {a b : ℕ} {why : Refusal} → ◌≡◌ {A = Result (ℕ × ℕ) Refusal} (Ok (a, b)) (Err why) → A
no_step e = absurd (let z : ◌≡◌ {A = ℕ} 0 1 = cc e in omega arith)

pub no_part : {A : Type 0} {j : ℕ} {bs : List ℕ} {why : Refusal} → put j bs ≡ stop why → A
no_part e = absurd (let z : ◌≡◌ {A = ℕ} 0 1 = cc e in omega arith)

module _ {l : List ℕ} {o : ℕ} where
  pub moves_put : {m : List ℕ} {r : Result (ℕ × ℕ) Refusal} {x : Part} {j : ℕ} {bs : List ℕ} → x ≡ put j bs → r ≡ Ok (j, o + length bs) → m ≡ sets l o bs → Moves l o x m r
  moves_put {m} {r} {x} {j} {bs} ex er em = record {
    went = λ k cs e.
        let q : put j bs ≡ put k cs = sym ex ∙ e in
        let ej : j ≡ k = cc q in
        let eb : bs ≡ cs = cc q in
        (er ∙ (λ t. Ok (ej t, o + length (eb t))), em ∙ ap (sets l o) eb);
    stopped = λ why e. no_part (sym ex ∙ e);
  }

  pub moves_stop : {m : List ℕ} {r : Result (ℕ × ℕ) Refusal} {x : Part} {why : Refusal} → x ≡ stop why → r ≡ Err why → Moves l o x m r
  moves_stop {m} {r} {x} {why} ex er = record {
    went = λ k cs e. no_part (sym e ∙ ex);
    stopped = λ w e. let q : stop why ≡ stop w = sym ex ∙ e in let ew : why ≡ w = cc q in er ∙ ap Err ew;
  }

  pub moves_is : {m : List ℕ} {r : Result (ℕ × ℕ) Refusal} {x y : Part} → x ≡ y → Moves l o x m r → Moves l o y m r
  moves_is e h = record { went = λ j bs q. h.went j bs (e ∙ q); stopped = λ w q. h.stopped w (e ∙ q) }

module _ {l : List ℕ} {o : ℕ} where
  pub far_none : (x : Part) → Far l o x x l o
  far_none x = record { bytes = []; so_far = sym (also_none x); holds = refl; place = sym (add-zero o) }

  -- bytes that were put before the parts
  pub far_puts : {m : List ℕ} {p : ℕ} {bs : List ℕ} (x : Part) → Puts l o bs m p → Far l o (also bs x) x m p
  far_puts {m} {p} {bs} x h = record { bytes = bs; so_far = refl; holds = h.holds; place = h.ends }

  module _ {whole : Part} {m : List ℕ} {p : ℕ} where
    -- the last part
    pub far_last : {m' : List ℕ} {r : Result (ℕ × ℕ) Refusal} (x : Part) → Far l o whole x m p → Moves m p x m' r → Moves l o whole m' r
    unfolding also
    far_last {m'} {r} (put j bs) f h =
        let w = h.went j bs refl in
        moves_put f.so_far (w.0 ∙ behind_as j (rw (f.place, length-append) (omega arith))) (w.1 ∙ rw (f.holds, f.place) (sets_append f.bytes bs l o))
    far_last (stop why) f h = moves_stop f.so_far (h.stopped why refl)

    pub far_end : {j : ℕ} → Far l o whole (put j []) m p → Moves l o whole m (Ok (j, p))
    far_end {j} f = far_last (put j []) f (moves_put {bs = []} refl (behind_as j (sym (add-zero p))) refl)

    -- a part that is refused
    pub far_stop : {m' n : List ℕ} {r : Result (ℕ × ℕ) Refusal} {why : Refusal} (x : Part) (k : ℕ → Part) → Far l o whole (then x k) m p → Moves m p x m' r → r ≡ Err why → Moves l o whole n (Err why)
    unfolding also then
    far_stop (put j bs) k f h e = no_step (sym (h.went j bs refl).0 ∙ e)
    far_stop (stop w) k f h e = moves_stop f.so_far (sym e ∙ h.stopped w refl)

    -- a part that is moved
    pub far_step : {m' : List ℕ} {r : Result (ℕ × ℕ) Refusal} {a b : ℕ} (x : Part) (k : ℕ → Part) → Far l o whole (then x k) m p → Moves m p x m' r → r ≡ Ok (a, b) → Far l o whole (k a) m' b
    unfolding also then
    far_step {m'} {r} {a} {b} (put j bs) k f h e =
        let w = h.went j bs refl in
        let same = same_places (sym e ∙ w.0) in
        let ea = same.0 in
        let eb = same.1 in
        record {
          bytes = f.bytes ++ bs;
          so_far = f.so_far ∙ also_also f.bytes bs (k j) ∙ ap (λ (i : ℕ). also (f.bytes ++ bs) (k i)) (sym ea);
          holds = w.1 ∙ rw (f.holds, f.place) (sets_append f.bytes bs l o);
          place = eb ∙ rw (f.place, length-append) (omega arith);
        }
    far_step (stop w) k f h e = no_step (sym e ∙ h.stopped w refl)

    pub far_is : {x y : Part} → x ≡ y → Far l o whole x m p → Far l o whole y m p
    far_is e f = record { bytes = f.bytes; so_far = f.so_far ∙ ap (also f.bytes) e; holds = f.holds; place = f.place }
