use Rattle.std.proofs.Common.{◌∙◌, ap, sym, length, arith}
use Rattle.std.proofs.Math.Seq.{map-set_same}
use Rattle.std.proofs.lemmas.Result.{IfOk-weaker}
use Rattle.outside_rules.proofs.Placed.{breaks_there, first_object, place_within, unplaced}
use Rattle.outside_rules.proofs.Raised.{object_raised}
use Rattle.outside_rules.proofs.asking.ask_first.Goals as goal

pub index_mut-requires : goal.index_mut-requires
index_mut-requires g c =
    let place = rw (c.kind.ensures.value, c.shape.ensures, c.deref.ensures.value) at c.in-Some.ensures in
    let within = place_within _ c.args.objects.now.items c.args.word.now c.args.f.now.shape.kind c.in-Some.i (sym place) in
    omega (arith, within, c.deref.ensures.len, ap length c.deref.ensures.value)

pub returns-in-Some-clause-breaks : goal.returns-in-Some-clause-breaks
returns-in-Some-clause-breaks g c =
    let place = rw (c.kind.ensures.value, c.shape.ensures, c.deref.ensures.value) at c.in-Some.ensures in
    let first = first_object _ c.args.objects.now.items c.args.word.now c.args.f.now.shape.kind c.in-Some.i c.index_mut.result.now (sym place)
    c.index_mut.ensures.value in
    IfOk-weaker c.ask.result _ _ (λ b h. (rw c.handle.ensures at h)
    ∙ breaks_there _ c.args.word.now c.args.view.now c.args.f.now.handle c.args.f.now c.in-Some.i _ first) c.ask.ensures.breaks

pub returns-in-Some-clause-same : goal.returns-in-Some-clause-same
returns-in-Some-clause-same g c = map-set_same _ c.args.objects.now.items c.in-Some.i c.ask.new.object c.index_mut.result.now
    (c.ask.ensures.same ∙ ap (λ o. (goal.OutsideRule-dyn g (o.vtable, o.value)).seen o.value) c.index_mut.ensures.value)

pub returns-in-Some-clause-asked : goal.returns-in-Some-clause-asked
returns-in-Some-clause-asked g c =
    let place = rw (c.kind.ensures.value, c.shape.ensures, c.deref.ensures.value) at c.in-Some.ensures in
    let within = place_within _ c.args.objects.now.items c.args.word.now c.args.f.now.shape.kind c.in-Some.i (sym place) in
    object_raised (λ o. (goal.OutsideRule-dyn g (o.vtable, o.value)).count o.value) c.args.objects.now.items c.in-Some.i c.index_mut.result.now
    c.ask.new.object _ within (sym place) c.index_mut.ensures.value c.ask.ensures.asked

pub returns-in-None-clause-breaks : goal.returns-in-None-clause-breaks
returns-in-None-clause-breaks g c =
    let place = rw (c.kind.ensures.value, c.shape.ensures, c.deref.ensures.value) at c.in-None.ensures in
    sym (unplaced 0 _ c.args.word.now c.args.view.now c.args.f.now.handle c.args.f.now (sym place))
