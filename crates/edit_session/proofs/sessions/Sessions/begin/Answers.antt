use Rattle.std.proofs.Common.{◌≡◌, length, ap, sym, ◌∙◌}
use Rattle.session_terms.specs.KeptChanges.{kept_named}
use Rattle.edit_session.proofs.Places.{none_open, begun_at, fewer}
use Rattle.edit_session.proofs.sessions.Sessions.begin.Goals as goal

pub returns-clause-done : goal.returns-clause-done
returns-clause-done c =
    let v = c.self.view_is in
    let e : c.args.self.now ≡ c.self.inside.sessions.items = cc in
    let d = c.deref.ensures.value in
    record {
      free = none_open (kept_named c.args.self.now c.args.name) c.is_open.result c.is_open.ensures c.if-is_open.false;
      few = fewer c.args.self.now c.self.inside.sessions.items c.len.result e c.self.invariant (c.len.ensures
          ∙ (sym c.deref.ensures.len ∙ ap length (d ∙ sym e))) c.if-len-eq-SESSION_LIMIT.false;
      session = c.new.result;
      named = c.new.ensures.name;
      done = c.new.ensures.done;
      undone = c.new.ensures.undone;
      sessions = begun_at c.args.name c.args.self.now c.self.inside.sessions.items c.insert.new.self.items c.place_of-index.result
          c.new.result e (rw (← d) c.place_of-index.ensures.place) (rw (← d) c.place_of-index.ensures.within) c.new.ensures.name
          c.in_ok-insert.ensures.items;
    }
