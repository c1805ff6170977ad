use Rattle.std.proofs.Common.{[], ◌≡◌, ◌<◌, ◌≤◌, ℕ, List, length, take, arith, refl, sym, ◌∙◌, ap, subst, lit<, lit≤}
use Rattle.std.specs.Io.KnownBytes.{Consumes}
use Rattle.topo_run.specs.declared.read.TheConstants.{PIECE}
use Rattle.topo_run.proofs.Runs.{at_err}
use Rattle.topo_run.proofs.Feeding.{err_through}
use Rattle.topo_run.proofs.Stepping.{keeps_by}
use Rattle.topo_run.proofs.Reading.{taking_begins, takes_on, fed_is, whole_piece, ends_whole, ends_long, none_taken, some_in_piece, some_at_end, breaks_in_piece, breaks_at_end}
use Rattle.topo_run.proofs.read.answer_script.Goals as goal

pub returns-in_err-piece-clause-err : goal.returns-in_err-piece-clause-err
returns-in_err-piece-clause-err g c =
    let law = c.state_law.ensures in
    let at = c.args.replayer.now.state in
    at_err c.from_residual.result (none_taken _ _ at (keeps_by at at (λ k. k) (λ k. k) law.sound law.invariant) law.keeping law.ordered refl refl)

pub loop-replayer-init : goal.loop-replayer-init
loop-replayer-init g c =
    let law = c.state_law.ensures in
    let at = c.args.replayer.now.state in
    record {
      taking = taking_begins c.args.replayer.now _ _ (keeps_by at at (λ k. k) (λ k. k) law.sound law.invariant) law.keeping law.ordered
          c.requires;
      read = omega arith;
      wrote = omega arith;
      piece = c.in_ok-piece.ensures;
    }

-- the source is at its end
pub returns-in_err-take_end-in-Ok-eq0-clause-err : goal.returns-in_err-take_end-in-Ok-eq0-clause-err
returns-in_err-take_end-in-Ok-eq0-clause-err g c =
    let same : length c.read.new.buf ≡ PIECE = c.read.auto.buf ∙ (ap (length {A = ℕ}) c.deref_mut.ensures.value ∙ c.loop-replayer.invariant.piece) in
    let some : 0 < PIECE = lit< tt in
    let none : c.in-Ok-eq0.field-0 ≡ 0 = c.in-Ok-eq0.field-0-test in
    let read : Consumes (g.S.Source.left c.loop-replayer.source) (g.S.Source.left c.read.new.self) [] =
    subst (λ (n : ℕ). Consumes (g.S.Source.left c.loop-replayer.source) (g.S.Source.left c.read.new.self) (take n c.read.new.buf))
    none c.in-Ok-eq0.ensures.bytes.0 in
    let end = c.in-Ok-eq0.ensures.bytes.1 none (subst (λ (n : ℕ). 0 < n) (sym same) some) in
    at_err c.from_residual-in_err-take_end-in-Ok-eq0.result
    (some_at_end _ _ c.loop-replayer.invariant.taking read end c.in_err-take_end-in-Ok-eq0.ensures.err)

pub returns-in_err-take_end-in-Ok-eq0-clause-broken : goal.returns-in_err-take_end-in-Ok-eq0-clause-broken
returns-in_err-take_end-in-Ok-eq0-clause-broken g c =
    let same : length c.read.new.buf ≡ PIECE = c.read.auto.buf ∙ (ap (length {A = ℕ}) c.deref_mut.ensures.value ∙ c.loop-replayer.invariant.piece) in
    let some : 0 < PIECE = lit< tt in
    let none : c.in-Ok-eq0.field-0 ≡ 0 = c.in-Ok-eq0.field-0-test in
    let read : Consumes (g.S.Source.left c.loop-replayer.source) (g.S.Source.left c.read.new.self) [] =
    subst (λ (n : ℕ). Consumes (g.S.Source.left c.loop-replayer.source) (g.S.Source.left c.read.new.self) (take n c.read.new.buf))
    none c.in-Ok-eq0.ensures.bytes.0 in
    let end = c.in-Ok-eq0.ensures.bytes.1 none (subst (λ (n : ℕ). 0 < n) (sym same) some) in
    λ failed. breaks_at_end _ _ c.loop-replayer.invariant.taking read end (c.in_err-take_end-in-Ok-eq0.ensures.broken
    (err_through _ c.in_err-take_end-in-Ok-eq0.field-0.0 _ c.from_residual-in_err-take_end-in-Ok-eq0.ensures.1 failed))

pub returns-in-Ok-eq0-clause-ok : goal.returns-in-Ok-eq0-clause-ok
returns-in-Ok-eq0-clause-ok g c =
    let same : length c.read.new.buf ≡ PIECE = c.read.auto.buf ∙ (ap (length {A = ℕ}) c.deref_mut.ensures.value ∙ c.loop-replayer.invariant.piece) in
    let some : 0 < PIECE = lit< tt in
    let none : c.in-Ok-eq0.field-0 ≡ 0 = c.in-Ok-eq0.field-0-test in
    let read : Consumes (g.S.Source.left c.loop-replayer.source) (g.S.Source.left c.read.new.self) [] =
    subst (λ (n : ℕ). Consumes (g.S.Source.left c.loop-replayer.source) (g.S.Source.left c.read.new.self) (take n c.read.new.buf))
    none c.in-Ok-eq0.ensures.bytes.0 in
    let end = c.in-Ok-eq0.ensures.bytes.1 none (subst (λ (n : ℕ). 0 < n) (sym same) some) in
    ends_whole _ _ c.loop-replayer.invariant.taking read end c.in_ok-take_end-in-Ok-eq0.ensures.ok

-- it gave a piece
pub returns-in_err-take_piece-in-Ok-clause-err : goal.returns-in_err-take_piece-in-Ok-clause-err
returns-in_err-take_piece-in-Ok-clause-err g c =
    let same : length c.read.new.buf ≡ length c.loop-replayer.piece.items = c.read.auto.buf ∙ ap (length {A = ℕ}) c.deref_mut.ensures.value in
    let long = c.loop-replayer.piece.ok.0 in
    let whole : c.deref.result.now ≡ c.read.new.buf =
    c.deref.ensures.value ∙ whole_piece c.loop-replayer.piece.items c.read.new.buf c.loop-replayer.piece.len long (same ∙ sym long) in
    let took : List ℕ = take c.in-Ok.count c.read.new.buf in
    let fed : List ℕ = take c.min.result c.deref.result.now in
    let is : fed ≡ take c.loop-replayer.room took =
    ap (λ (t : List ℕ). take c.min.result t) whole ∙ fed_is c.read.new.buf c.loop-replayer.room c.in-Ok.count c.min.result c.min.ensures in
    at_err c.from_residual-in_err-take_piece-in-Ok.result (some_in_piece _ _ took fed c.loop-replayer.invariant.taking c.in-Ok.ensures.bytes.0 is
    c.in_err-take_piece-in-Ok.ensures.err)

pub returns-in_err-take_piece-in-Ok-clause-broken : goal.returns-in_err-take_piece-in-Ok-clause-broken
returns-in_err-take_piece-in-Ok-clause-broken g c =
    let same : length c.read.new.buf ≡ length c.loop-replayer.piece.items = c.read.auto.buf ∙ ap (length {A = ℕ}) c.deref_mut.ensures.value in
    let long = c.loop-replayer.piece.ok.0 in
    let whole : c.deref.result.now ≡ c.read.new.buf =
    c.deref.ensures.value ∙ whole_piece c.loop-replayer.piece.items c.read.new.buf c.loop-replayer.piece.len long (same ∙ sym long) in
    let took : List ℕ = take c.in-Ok.count c.read.new.buf in
    let fed : List ℕ = take c.min.result c.deref.result.now in
    let is : fed ≡ take c.loop-replayer.room took =
    ap (λ (t : List ℕ). take c.min.result t) whole ∙ fed_is c.read.new.buf c.loop-replayer.room c.in-Ok.count c.min.result c.min.ensures in
    let few : PIECE ≤ 65536 = lit≤ tt in
    let read : length c.read.new.buf ≤ 65536 = subst (λ (n : ℕ). n ≤ 65536) (sym (same ∙ c.loop-replayer.invariant.piece)) few in
    let piece : length took ≤ 65536 = omega (arith, c.in-Ok.ensures.bound.0, c.in-Ok.ensures.bound.1, read) in
    λ failed. breaks_in_piece _ _ took fed c.loop-replayer.invariant.taking c.in-Ok.ensures.bytes.0 is piece
    (c.in_err-take_piece-in-Ok.ensures.broken (err_through _ c.in_err-take_piece-in-Ok.field-0.0 _ c.from_residual-in_err-take_piece-in-Ok.ensures.1 failed))

pub returns-then-count-room-clause-ok : goal.returns-then-count-room-clause-ok
returns-then-count-room-clause-ok g c =
    let same : length c.read.new.buf ≡ length c.loop-replayer.piece.items = c.read.auto.buf ∙ ap (length {A = ℕ}) c.deref_mut.ensures.value in
    let long = c.loop-replayer.piece.ok.0 in
    let whole : c.deref.result.now ≡ c.read.new.buf =
    c.deref.ensures.value ∙ whole_piece c.loop-replayer.piece.items c.read.new.buf c.loop-replayer.piece.len long (same ∙ sym long) in
    let took : List ℕ = take c.in-Ok.count c.read.new.buf in
    let fed : List ℕ = take c.min.result c.deref.result.now in
    let is : fed ≡ take c.loop-replayer.room took =
    ap (λ (t : List ℕ). take c.min.result t) whole ∙ fed_is c.read.new.buf c.loop-replayer.room c.in-Ok.count c.min.result c.min.ensures in
    ends_long _ _ took fed c.loop-replayer.invariant.taking c.in-Ok.ensures.bytes.0 is
    (omega (arith, c.in-Ok.ensures.bound.1, c.if-count-room.true)) c.in_ok-take_piece-in-Ok.ensures.ok

pub loop-replayer-preserved : goal.loop-replayer-preserved
loop-replayer-preserved g c =
    let same : length c.read.new.buf ≡ length c.loop-replayer.piece.items = c.read.auto.buf ∙ ap (length {A = ℕ}) c.deref_mut.ensures.value in
    let long = c.loop-replayer.piece.ok.0 in
    let whole : c.deref.result.now ≡ c.read.new.buf =
    c.deref.ensures.value ∙ whole_piece c.loop-replayer.piece.items c.read.new.buf c.loop-replayer.piece.len long (same ∙ sym long) in
    let took : List ℕ = take c.in-Ok.count c.read.new.buf in
    let fed : List ℕ = take c.min.result c.deref.result.now in
    let is : fed ≡ take c.loop-replayer.room took =
    ap (λ (t : List ℕ). take c.min.result t) whole ∙ fed_is c.read.new.buf c.loop-replayer.room c.in-Ok.count c.min.result c.min.ensures in
    record {
      taking = takes_on took fed c.in-Ok.count c.loop-replayer.invariant.taking c.in-Ok.ensures.bytes.0 is c.in-Ok.ensures.bound.1
          c.if-count-room.false c.in_ok-take_piece-in-Ok.ensures.ok;
      read = omega (arith, c.loop-replayer.invariant.read, c.in-Ok.ensures.cause.later);
      wrote = omega (arith, c.loop-replayer.invariant.wrote, c.in_ok-take_piece-in-Ok.ensures.later);
      piece = ap (length {A = ℕ}) (whole_piece c.loop-replayer.piece.items c.read.new.buf c.loop-replayer.piece.len long (same ∙ sym long))
          ∙ (same ∙ c.loop-replayer.invariant.piece);
    }
