-- What a walk leaves for later ones, and where these begin. Assumes nothing.
--     head_resumes, for_same, for_resumes, for_at (the cursor of a walk); Trails, trails_start, walks_on (a window is passed)
use Prim.Native.Nat.{ℕ, ◌+◌, ◌-◌, ◌*◌, ◌≤◌, ◌<◌}
use mathlib.Core.Bool.{Bool, true, false, cond}
use mathlib.Core.List.{List}
use mathlib.Core.Logic.{◌≢◌}
use mathlib.Core.Path.{◌≡◌, refl, sym, ap, ◌∙◌, subst}
use native.Mathlib.Omega.{arith}
use borrow.Author.Tests.{eqb-true}
use lib.Dec.{T, eqb}
use lib.Ieee.{Float, nan, lt, le}
use lib.Ieee.Bits.{is_true}
use lib.ListN.{get_or}
use Rattle.nat_laws.proofs.Tests.{holds}
use Rattle.float64.specs.Scalar.{zero64, max_of}
use Rattle.float_laws.proofs.Order.{Number, finite_number, zero_finite, lt_number_l, le_number_l, lt_le, le_lt_trans}
use Rattle.float_laws.proofs.MinMax.{max_keeps, max_ge_l, max_ge_r}
use Rattle.layout.specs.Layout.{reals_per_window, window_b0, window_b1}
use Rattle.buffers.specs.declared.EdgeId.{EdgeId}
use Rattle.chains.specs.Chains.{Links, link_in, link_at}
use Rattle.chains.proofs.Turns.{link_le}
use Rattle.edge_query.specs.declared.Cursor.{Cursor}
use Rattle.edge_query.specs.declared.Passed.{Passed}
use Rattle.edge_query.specs.Forward.{past_of}
use Rattle.edge_query.specs.Resume.{from_head, ResumesAt, Resumes, head_cursor, cursor_for, cursor_past}
use Rattle.edge_query.proofs.Forward.{to_come, passes, past_short}

-- what `cursor_past` answers of the window of link l, whose end is b1
module _ (f : List Float) (x : Float) (c : Cursor) (l left : ℕ) (bound b1 : Float) (is : b1 ≡ get_or f (reals_per_window * (l - 1) + window_b1) nan) where
  pub cursor_ended : lt b1 x ≡ true → (place : Float) → place ≡ max_of bound b1 → record { edge = c.edge; place = place; link = l; left = left } ≡ cursor_past f x c l left bound
  unfolding cursor_past
  cursor_ended t place h = rw (sym is, t) (ap (λ (y : Float). record { edge = c.edge; place = y; link = l; left = left }) h)

  pub cursor_stays : lt b1 x ≡ false → c ≡ cursor_past f x c l left bound
  unfolding cursor_past
  cursor_stays t = rw (sym is, t) refl

module _ (made : ℕ) (b : Links) (f : List Float) where
  pub head_resumes : (e : EdgeId) → Resumes made b f (head_cursor e made)
  head_resumes e = record { number = finite_number zero64 zero_finite; link_made = omega arith; left_made = omega arith; past_place = λ x h d. refl }

  -- ---- the cursor of the walk for x on edge e
  module _ (c : Cursor) (e : EdgeId) (x : Float) where
    pub for_same : (cursor_for c e made x).edge ≡ e.0
    unfolding cursor_for
    for_same = go (eqb c.edge e.0) (lt c.place x) refl where
      go : (s t : Bool) → eqb c.edge e.0 ≡ s → (cond s (cond t c (head_cursor e made)) (head_cursor e made)).edge ≡ e.0
      go true true h = eqb-true c.edge e.0 h
      go true false h = refl
      go false t h = refl

    pub for_resumes : Resumes made b f c → Resumes made b f (cursor_for c e made x)
    unfolding cursor_for
    for_resumes r = go (eqb c.edge e.0) (lt c.place x) where
      go : (s t : Bool) → Resumes made b f (cond s (cond t c (head_cursor e made)) (head_cursor e made))
      go true true = r
      go true false = head_resumes e
      go false t = head_resumes e

    pub for_at : Resumes made b f c → ResumesAt made b f (cursor_for c e made x) x
    unfolding cursor_for
    for_at r = go (eqb c.edge e.0) (lt c.place x) refl where
      go : (s t : Bool) → lt c.place x ≡ t → ResumesAt made b f (cond s (cond t c (head_cursor e made)) (head_cursor e made)) x
      go true true h = r.past_place x (holds (lt c.place x) h)
      go true false h = λ d. refl
      go false t h = λ d. refl

  -- ---- a walk along the chain of edge e has come behind link k
  module _ (e : ℕ) where
    -- a walk for any place past the bound comes there too, with other windows passed
    pub record Trails (left k : ℕ) (bound : Float) (c : Cursor) : Type 0 where
      pub number : Number bound
      pub same : c.edge ≡ e
      pub resumes : Resumes made b f c
      pub passed : Float → Passed
      pub comes : (x d : Float) → T (lt bound x) → to_come made b f e x d left k (passed x) ≡ from_head made b f e x d

    -- the window of link r is passed, which starts at b0
    module _ (left k r : ℕ) (read : r ≡ link_in made (link_at b e k)) (m : 0 < left) (q : r ≢ 0) (n : left ≤ made) (x b0 : Float) (is : b0 ≡ get_or f (reals_per_window * (r - 1) + window_b0) nan) (t : le b0 x ≡ true) (bound : Float) (c : Cursor) (o : Trails left k bound c) where
      b0_number : Number b0
      b0_number = le_number_l b0 x (holds (le b0 x) t)

      abbrev next : Float
      next = max_of bound b0

      next_number : Number next
      next_number = max_keeps Number bound b0 o.number b0_number

      on : Float → Passed
      on y = past_of b.words f y (o.passed y) (r - 1)

      further : (y d : Float) → T (lt next y) → to_come made b f e y d (left - 1) r (on y) ≡ from_head made b f e y d
      unfolding on past_of
      further y d h =
          let before = le_lt_trans bound next y (max_ge_l bound b0 o.number) h in
          let starts = lt_le b0 y (le_lt_trans b0 next y (max_ge_r bound b0 b0_number) h) in
          passes made b f e y d left k r (o.passed y) read m q b0 is (is_true (le b0 y) starts) ∙ o.comes y d before

      abbrev end : Float
      end = get_or f (reals_per_window * (r - 1) + window_b1) nan

      ended : lt end x ≡ true → Resumes made b f (record { edge = c.edge; place = max_of next end; link = r; left = left - 1 })
      unfolding on
      ended u =
          let end-number = lt_number_l end x (holds (lt end x) u) in
          record {
            number = max_keeps Number next end next_number end-number;
            link_made = link_le made (link_at b e k) r read;
            left_made = omega (arith, n);
            past_place = λ y h d.
                let past = le_lt_trans next (max_of next end) y (max_ge_l next end next_number) h in
                let ends = is_true (lt end y) (le_lt_trans end (max_of next end) y (max_ge_r next end end-number) h) in
                subst (λ (i : ℕ). to_come made b f i y d (left - 1) r (record { least = nan; short = r }) ≡ from_head made b f i y d) (sym o.same)
                (ap (to_come made b f e y d (left - 1) r) (past_short b.words f y (o.passed y) r (omega (arith, q)) end refl ends) ∙ further y d past);
          }

      pub walks_on : Trails (left - 1) r next (cursor_past f x c r (left - 1) next)
      unfolding cursor_past
      walks_on = go (lt end x) refl where
        go : (u : Bool) → lt end x ≡ u → Trails (left - 1) r next (cond u (record { edge = c.edge; place = max_of next end; link = r; left = left - 1 }) c)
        go true h = record { number = next_number; same = o.same; resumes = ended h; passed = on; comes = further }
        go false h = record { number = next_number; same = o.same; resumes = o.resumes; passed = on; comes = further }

  pub trails_start : (c : Cursor) → Resumes made b f c → Trails c.edge c.left c.link c.place c
  trails_start c r = record { number = r.number; same = refl; resumes = r; passed = λ x. record { least = nan; short = c.link }; comes = λ x d h. r.past_place x h d }

  -- the bound and the cursor as code has them
  pub trails_on : (e left k : ℕ) (x bound next : Float) (c c' : Cursor) → next ≡ bound → c' ≡ cursor_past f x c k left next → Trails e left k bound (cursor_past f x c k left bound) → Trails e left k next c'
  trails_on e left k x bound next c c' h i o = subst (Trails e left k next) (sym i) (subst (λ (y : Float). Trails e left k y (cursor_past f x c k left y)) (sym h) o)

  -- all that the cursor of a walk is asked for
  pub for_all : (c c' : Cursor) (e : EdgeId) (x : Float) → c' ≡ cursor_for c e made x → Resumes made b f c → (c'.edge ≡ e.0) × (Resumes made b f c' × ResumesAt made b f c' x)
  for_all c c' e x h r = subst (λ (y : Cursor). (y.edge ≡ e.0) × (Resumes made b f y × ResumesAt made b f y x)) (sym h) (for_same c e x, (for_resumes c e x r, for_at c e x r))
