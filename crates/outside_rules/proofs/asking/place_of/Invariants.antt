use Rattle.std.proofs.Common.{◌≡◌, map, drop}
use Rattle.outside_rule_terms.specs.Asked.{place_from, place_of}
use Rattle.outside_rules.proofs.asking.place_of.Given as goal

abbrev pub invariant-loop-i : goal.invariant-loop-i
invariant-loop-i g l =
    place_from l.i (map (λ o. (goal.OutsideRule-dyn g (o.vtable, o.value)).seen o.value) (drop l.i l.objects)) l.word l.kind
    ≡ place_of (map (λ o. (goal.OutsideRule-dyn g (o.vtable, o.value)).seen o.value) l.objects) l.word l.kind
