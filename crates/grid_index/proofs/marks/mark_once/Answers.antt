use Rattle.std.proofs.Common.{ap, length, arith, ◌∙◌}
use Rattle.grid_index.proofs.marks.mark_once.Goals as goal

pub put_marked-requires : goal.put_marked-requires
put_marked-requires c =
    let n = ap length c.deref-3.ensures.value ∙ c.in_ok-marks.ensures.len in
    let t = c.highest_of.type_inv in
    omega (arith, n, t)

pub returns-clause-same : goal.returns-clause-same
returns-clause-same c = λ a.
    let put = rw c.deref-3.ensures.value at c.in_ok-put_marked.ensures.same in
    let marked = rw c.deref-2.ensures.value at c.in_ok-marks.ensures.marked in
    ((λ k. (marked a).0 ((put a).0 k)), (λ k. (put a).1 ((marked a).1 k)))
