use Rattle.std.proofs.Common.{◌≡◌, ◌∙◌, ◌+◌, ◌∷◌, arith, ap, sym, drop, length}
use Rattle.std.proofs.lemmas.List.{drop_all, drop_more, length-take}
use Rattle.plane_terms.specs.Cell.{Cell, meet_of}
use Rattle.convex_cell.proofs.Flats.{meet_by_one}
use Rattle.convex_cell.proofs.Pieces.{begins_more}
use Rattle.convex_cell.proofs.cell.push_new.Goals as goal

pub push_if_new-requires : goal.push_if_new-requires
push_if_new-requires c =
    omega (arith, c.requires, length-take (length c.args.halves.now.items) c.loop-half.halves.items, ap length c.loop-half.invariant.begins)

pub loop-half-preserved : goal.loop-half-preserved
loop-half-preserved c =
    let more : Cell = c.args.more.now in
    let i = c.loop-half.half-index in
    let h = c.half-item.result in
    let rest = drop (i + 1) more in
    let next : drop i more ≡ h ∷ rest = drop_more more i h c.loop-half-test.true ∙ ap (λ x. x ∷ rest) (sym c.half-item.is) in
    let before : Cell = drop c.args.from c.loop-half.halves.items in
    record {
      met = ap (λ (cs : Cell). meet_of cs rest) c.in_ok-push_if_new.ensures.met ∙ (meet_by_one before h rest
          ∙ (ap (λ (hs : Cell). meet_of before hs) (sym next) ∙ c.loop-half.invariant.met));
      begins = begins_more c.args.halves.now.items c.loop-half.halves.items c.push_if_new.new.halves.items c.loop-half.invariant.begins
          c.push_if_new.ensures.begins;
    }

pub returns-clause-met : goal.returns-clause-met
returns-clause-met c =
    let none = drop_all c.loop-half.half-index c.args.more.now (omega arith) in
    ap (λ (hs : Cell). meet_of (drop c.args.from c.loop-half.halves.items) hs) (sym none) ∙ c.loop-half.invariant.met
