use Rattle.std.proofs.Common.{refl}
use Rattle.std.proofs.lemmas.Result.{MatchResult-weaker}
use Rattle.wkt_laws.specs.Steps.{AfterPosition}
use Rattle.wkt_laws.proofs.Passing.{passes_none, passes_others}
use Rattle.wkt_text.specs.States.{owner_of}
use Rattle.wkt_text.proofs.positions.read_more.Goals as goal

pub returns-in-Point : goal.returns-in-Point
returns-in-Point c = passes_none (AfterPosition (owner_of c.args.owner.now) c.args.positions.now.items) c.args.text.now

pub returns-in-Line : goal.returns-in-Line
returns-in-Line c =
    MatchResult-weaker c.read_others.result c.read_others.ensures
    (λ rest m. passes_others (owner_of c.args.owner.now) (rw c.in-Line.is (λ ps. refl)) c.args.positions.now.items
    c.read_others.new.positions.items c.args.text.now rest.now m)
    (λ e h. h)

pub returns-in-OneOf : goal.returns-in-OneOf
returns-in-OneOf c =
    MatchResult-weaker c.read_others-in-OneOf.result c.read_others-in-OneOf.ensures
    (λ rest m. passes_others (owner_of c.args.owner.now) (rw c.in-OneOf.is (λ ps. refl)) c.args.positions.now.items
    c.read_others-in-OneOf.new.positions.items c.args.text.now rest.now m)
    (λ e h. h)
