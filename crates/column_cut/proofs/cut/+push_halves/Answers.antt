use Rattle.std.proofs.Common.{◌≡◌, ◌∙◌, ◌<◌, ◌++◌, ◌∷◌, length, ap, sym, subst, arith, rules}
use Rattle.std.specs.List.{filter}
use Rattle.std.proofs.lemmas.List.{take-append-drop}
use Rattle.plane_terms.specs.Columns.{last}
use Rattle.column_laws.specs.Rising.{IsRising}
use Rattle.column_cut.specs.Parity.{is_even}
use Rattle.column_cut.specs.Strips.{reaches}
use Rattle.column_cut.proofs.Steps.{last_is}
use Rattle.column_cut.proofs.Reached.{rising_front, rising_back, halves_done}
use Rattle.column_cut.proofs.cut.+push_halves.Goals as goal

pub push_halves-requires : goal.push_halves-requires
push_halves-requires t c =
    let low = c.split_at.result.0.now in
    let high = c.split_at.result.1.now in
    let parts : c.args.rest.now ≡ low ++ high = rw (c.split_at.ensures.front, c.split_at.ensures.back)
    (sym (take-append-drop _ c.args.rest.now)) in
    let rising : IsRising (c.args.first.now ∷ low) = rising_front c.args.first.now low high
    (subst (λ vs. IsRising (c.args.first.now ∷ vs)) parts c.requires) in
    let smaller : length low < length c.args.rest.now = omega (arith, c.split_at.ensures.front_len) in
    (search rules, rising)

pub push_halves-requires-2 : goal.push_halves-requires-2
push_halves-requires-2 t c =
    let low = c.split_at.result.0.now in
    let high = c.split_at.result.1.now in
    let parts : c.args.rest.now ≡ low ++ high = rw (c.split_at.ensures.front, c.split_at.ensures.back)
    (sym (take-append-drop _ c.args.rest.now)) in
    let between : c.unwrap_or-2.result.now ≡ last c.args.first.now low = ap (λ b. b.now) c.unwrap_or-2.ensures
    ∙ last_is c.last-2.result c.args.first low c.last-2.ensures.value in
    let rising : IsRising (c.unwrap_or-2.result.now ∷ high) = subst (λ v. IsRising (v ∷ high)) (sym between)
    (rising_back c.args.first.now low high (subst (λ vs. IsRising (c.args.first.now ∷ vs)) parts c.requires)) in
    let smaller : length high < length c.args.rest.now = omega (arith, c.split_at.ensures.back_len, c.split_at.ensures.front_len) in
    (search rules, rising)

pub returns : goal.returns
returns t c =
    let low = c.split_at.result.0.now in
    let high = c.split_at.result.1.now in
    let first = c.args.first.now in
    let rest = c.args.rest.now in
    let ss = c.args.segments.now in
    let nears = c.in_ok-near.near.items in
    let parts : rest ≡ low ++ high = rw (c.split_at.ensures.front, c.split_at.ensures.back) (sym (take-append-drop _ rest)) in
    let greatest : c.unwrap_or.result.now ≡ last first rest = ap (λ b. b.now) c.unwrap_or.ensures
    ∙ last_is c.last.result c.args.first rest c.last.ensures.value in
    let between : c.unwrap_or-2.result.now ≡ last first low = ap (λ b. b.now) c.unwrap_or-2.ensures
    ∙ last_is c.last-2.result c.args.first low c.last-2.ensures.value in
    let reached : nears ≡ filter (reaches first (last first rest)) ss = c.in_ok-near.ensures
    ∙ ap (λ v. filter (reaches first v) ss) greatest in
    halves_done c.push_halves-2.result (is_even c.args.parity) ss nears first c.unwrap_or-2.result.now low high rest parts between reached
    c.requires c.args.cells.now c.push_halves.new.cells c.push_halves-2.new.cells
    (rw c.deref.ensures.value at c.in_ok-push_halves.ensures) (rw c.deref-2.ensures.value at c.push_halves-2.ensures)
