-- `stl::write` meets its contract. Assumes nothing.
use mathlib.Core.Path.{sym, ◌∙◌}
use native.Mathlib.Omega.{arith}
use Rattle.stl.proofs.Written.{wrong, names_none, no_single, too_short, written, few_triangles, writable}
use Rattle.stl.proofs.write.Goals as goal

pub returns-then-has_wrong_sizes : goal.returns-then-has_wrong_sizes
returns-then-has_wrong_sizes c =
    let a = c.args in
    wrong a.vertices.now a.triangles.now a.out.now (sym c.has_wrong_sizes.ensures ∙ c.if-has_wrong_sizes.true)

pub returns-then-any_missing : goal.returns-then-any_missing
returns-then-any_missing c =
    let a = c.args in
    names_none a.vertices.now a.triangles.now a.out.now (sym c.has_wrong_sizes.ensures ∙ c.if-has_wrong_sizes.false) (sym c.any_missing.ensures ∙ c.if-any_missing.true)

pub returns-then-any_not_single : goal.returns-then-any_not_single
returns-then-any_not_single c =
    let a = c.args in
    no_single a.vertices.now a.triangles.now a.out.now (sym c.has_wrong_sizes.ensures ∙ c.if-has_wrong_sizes.false) (sym c.any_missing.ensures ∙ c.if-any_missing.false) (sym c.any_not_single.ensures ∙ c.if-any_not_single.true)

pub overflow_mul-n : goal.overflow_mul-n
overflow_mul-n c =
    omega (arith, few_triangles _ _ (sym c.has_wrong_sizes.ensures ∙ c.if-has_wrong_sizes.false))

pub overflow_add-n : goal.overflow_add-n
overflow_add-n c =
    omega (arith, few_triangles _ _ (sym c.has_wrong_sizes.ensures ∙ c.if-has_wrong_sizes.false))

pub returns-then-out-n : goal.returns-then-out-n
returns-then-out-n c =
    let a = c.args in
    too_short a.vertices.now a.triangles.now a.out.now (sym c.has_wrong_sizes.ensures ∙ c.if-has_wrong_sizes.false) (sym c.any_missing.ensures ∙ c.if-any_missing.false) (sym c.any_not_single.ensures ∙ c.if-any_not_single.false) c.if-out-n.true

pub put_file-requires : goal.put_file-requires
put_file-requires c =
    let a = c.args in
    (few_triangles _ _ (sym c.has_wrong_sizes.ensures ∙ c.if-has_wrong_sizes.false), writable a.vertices.now a.triangles.now (sym c.any_missing.ensures ∙ c.if-any_missing.false) (sym c.any_not_single.ensures ∙ c.if-any_not_single.false))

pub returns : goal.returns
returns c =
    let a = c.args in
    written a.vertices.now a.triangles.now a.out.now (sym c.has_wrong_sizes.ensures ∙ c.if-has_wrong_sizes.false) (sym c.any_missing.ensures ∙ c.if-any_missing.false) (sym c.any_not_single.ensures ∙ c.if-any_not_single.false) c.if-out-n.false _ _ c.put_file.ensures
