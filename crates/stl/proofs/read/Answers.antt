-- `stl::read` meets its contract. Assumes nothing.
use Prim.Native.Nat.{ℕ, ◌+◌, ◌*◌, ◌/◌}
use mathlib.Core.Path.{◌≡◌, sym, ap, ◌∙◌, subst}
use mathlib.Core.Bool.{true, false}
use lib.ListN.{length}
use Rattle.job_checks.specs.Any.{any_below}
use Rattle.std.specs.Prelude.{Err}
use Rattle.stl_format.specs.declared.StlRefusal.TheVariants.{TooShort, WrongLength, NotFinite, TooMany}
use Rattle.stl_format.specs.Format.{bytes_not_finite}
use Rattle.stl_format.specs.Answers.{after_reading, mesh_lists}
use Rattle.stl.proofs.Meshes.{answered, is_short, is_wrong, is_infinite, is_many, many_records}
use Rattle.stl.proofs.read.Goals as goal

pub returns-then-s-lt84 : goal.returns-then-s-lt84
unfolding after_reading
returns-then-s-lt84 c =
    let a = c.args in
    answered a.s.now (mesh_lists a.vertices.now a.triangles.now) (Err TooShort) (is_short a.s.now (length a.vertices.now / 3) (length a.triangles.now / 3) c.if-s-lt84.true)

pub returns-then-s-n : goal.returns-then-s-n
unfolding after_reading
returns-then-s-n c =
    let a = c.args in
    let s = a.s.now in
    answered s (mesh_lists a.vertices.now a.triangles.now) (Err WrongLength) (is_wrong s (length a.vertices.now / 3) (length a.triangles.now / 3) c.if-s-lt84.false (λ z. c.if-s-n.true (z ∙ ap (λ (k : ℕ). 84 + 50 * k) (sym c.word_at-n.ensures))))

pub returns-then-any_not_finite : goal.returns-then-any_not_finite
unfolding after_reading
returns-then-any_not_finite c =
    let a = c.args in
    let s = a.s.now in
    answered s (mesh_lists a.vertices.now a.triangles.now) (Err NotFinite) (is_infinite s (length a.vertices.now / 3) (length a.triangles.now / 3) c.if-s-lt84.false (c.if-s-n.false ∙ ap (λ (k : ℕ). 84 + 50 * k) c.word_at-n.ensures) (subst (λ (k : ℕ). any_below (bytes_not_finite s) (3 * k) ≡ true) c.word_at-n.ensures (sym c.any_not_finite.ensures ∙ c.if-any_not_finite.true)))

pub returns-then-n-gt131070 : goal.returns-then-n-gt131070
unfolding after_reading
returns-then-n-gt131070 c =
    let a = c.args in
    let s = a.s.now in
    answered s (mesh_lists a.vertices.now a.triangles.now) (Err TooMany) (is_many s (length a.vertices.now / 3) (length a.triangles.now / 3) c.if-s-lt84.false (c.if-s-n.false ∙ ap (λ (k : ℕ). 84 + 50 * k) c.word_at-n.ensures) (subst (λ (k : ℕ). any_below (bytes_not_finite s) (3 * k) ≡ false) c.word_at-n.ensures (sym c.any_not_finite.ensures ∙ c.if-any_not_finite.false)) (many_records s (rw c.word_at-n.ensures at c.if-n-gt131070.true)))

pub read_mesh-requires : goal.read_mesh-requires
read_mesh-requires c =
    record {
      counted = c.word_at-n.ensures;
      long = c.if-s-n.false;
      finite = sym c.any_not_finite.ensures ∙ c.if-any_not_finite.false;
      few = c.if-n-gt131070.false;
    }
