-- A change that is noted, and one that no session notes, leave a state of a run.
use Rattle.std.proofs.Common.{ℕ, ◌≡◌, ◌≤◌, ◌<◌, ◌+◌, Bool, true, false, List, [], ◌∷◌, ◌++◌, Option, Some, None, refl, sym, ◌∙◌, ap, subst, arith, eqb}
use Rattle.std.specs.Prelude.{IfSome, if◌then◌else◌}
use Rattle.plane_terms.specs.Lists.{Every}
use Rattle.plane_terms.specs.Shape.{Shape}
use Rattle.topology_terms.specs.Changes.{IsFeatureSet, IsFeatureAdded}
use Rattle.topology_terms.specs.Feature.{feature_of, Class, Feature, feature_at}
use Rattle.topology_terms.specs.Project.{Project, IsOrdered}
use Rattle.feature_store.specs.Keeps.{IsOfClass, IsGiven, IsStore}
use Rattle.feature_store.proofs.Keeping.{kind_end}
use Rattle.session_terms.specs.Kept.{KeptStep, KeptSession, seen}
use Rattle.session_terms.specs.KeptChanges.{IsKeptNoted, kept_named, with_kept}
use Rattle.session_terms.specs.Steps.{IsAlone}
use Rattle.edit_session.specs.Grounds.{may_in}
use Rattle.edit_session.specs.Moves.{MayAll}
use Rattle.edit_session.specs.SessionsCalls as calls
use Rattle.edit_session.proofs.Moves.{each_still, each_end}
use Rattle.line_terms.specs.Commands.{Delete}
use Rattle.script_terms.specs.Answer.{LeavesNoted, set_step, added_step}
use Rattle.script_terms.specs.Keeping.{IsKeeping}
use Rattle.script_terms.specs.Refusing.{refusal_of}
use Rattle.script_terms.proofs.Bridges.{IsNoted, note_bridge, room_bridge}
use Rattle.script_terms.proofs.Commands.{same_keeps, added_keeps, fresh_alone}
use Rattle.script_terms.proofs.Keeping.{altered_keeps}
use Rattle.script_terms.proofs.Runs.{may_edit}
use Rattle.command_answers.specs.Worlds.{seen_desk, IsWorld}
use Rattle.command_answers.proofs.KeptLists.{named_has, name_of, now_named, with_twice}
use Rattle.command_answers.proofs.Sessions.{May, may_changed, all_still}
use Rattle.std.proofs.lemmas.Bool.{eqb-true}

-- ---- room is made, and the step is noted
pub room_noted : (name : List ℕ) (t : KeptStep) (old mid new : List KeptSession) → calls.IsRoomMade name old mid
    → calls.IsNoted name t mid new → calls.IsNoted name t old new
room_noted name t old mid new r n =
    let named : r.is.name ≡ name = r.change.name ∙ name_of old name r.was r.change.there in
    let e : Some n.was ≡ Some r.is = sym n.change.there ∙ (ap (λ xs. kept_named xs name) r.change.sessions
    ∙ now_named old name r.was r.is r.change.there named) in
    let same : n.was ≡ r.is = cc in
    let own : n.is.name ≡ r.is.name = n.change.name ∙ ap (λ (x : KeptSession). x.name) same in
    record {
      was = r.was;
      is = n.is;
      change = record {
        there = r.change.there;
        name = own ∙ r.change.name;
        sessions = n.change.sessions
            ∙ (ap (λ xs. with_kept xs n.is) r.change.sessions ∙ with_twice old r.is n.is own);
      };
      noted = record {
        name = own ∙ r.change.name;
        done = n.noted.done ∙ (ap (λ (x : KeptSession). x.done ++ t ∷ []) same ∙ ap (λ d. d ++ t ∷ []) r.same.done);
        undone = n.noted.undone;
      };
    }

-- ---- the step that is noted may stand
pub noted_may : (may can : ℕ → Option Feature → Type 0) (s : KeptSession) (t : KeptStep) (u : KeptSession)
    → ((k : ℕ) (x : Option Feature) → may k x → can k x) → IsKeptNoted s t u → MayAll may s → can t.handle t.kept → MayAll can u
noted_may may can s t u still k m c = record {
  done = subst (Every (λ (x : KeptStep). can x.handle x.kept)) (sym k.done) (each_end can s.done t (each_still may can s.done still m.done)
      c);
  undone = subst (Every (λ (x : KeptStep). can x.handle x.kept)) (sym k.undone) tt;
}

live_has : (P : Feature → Type 0) (F : List Feature) (h : ℕ) (f : Feature) → Every P F → feature_at F h ≡ Some f → P f × (f.handle ≡ h)
unfolding feature_at
live_has P [] h f a e = cc
live_has P (g ∷ F) h f a e = by (eqb g.handle h) refl e (λ r. live_has P F h f a.1 r)
  where
    by : (b : Bool) → eqb g.handle h ≡ b → (if b then Some g else feature_at F h) ≡ Some f
        → (feature_at F h ≡ Some f → P f × (f.handle ≡ h)) → P f × (f.handle ≡ h)
    by true k e r = let same : g ≡ f = cc in (subst P same a.0, ap (λ (x : Feature). x.handle) (sym same) ∙ eqb-true g.handle h k)
    by false k e r = r e

pub live_may : (p : Project) (h : ℕ) (f : Feature) → IsStore p.classes p.features p.next → feature_at p.features h ≡ Some f
    → May p h (feature_at p.features h)
live_may p h f s e =
    let g = live_has (IsGiven p.next) p.features h f s.given e in
    let k = live_has (IsOfClass p.classes) p.features h f s.kinds e in
    let here : May p h (Some f) = record {
      from_1 = subst (λ n. 1 ≤ n) g.1 g.0.from_1;
      given = subst (λ n. n < p.next) g.1 g.0.before;
      own =
          g.1;
      fits = k.0;
    } in
    subst (May p h) (sym e) here

-- ---- a feature is set, or taken away
pub set_done : (p q : Project) (name : List ℕ) (ss ts : List KeptSession) (h : ℕ) (after : Option Feature) → IsWorld p ss → IsOrdered p
    → refusal_of (seen_desk p ss) (Delete name h) ≡ None
    → IsFeatureSet h after p q → calls.IsNoted name (record { handle = h; kept = feature_at p.features h }) ss ts
    → LeavesNoted name (set_step p h after) (IsFeatureSet h after) (seen_desk p ss) (seen_desk q ts)
set_done p q name ss ts h after w ord may e d =
    let at = feature_at p.features in
    let bt = feature_at q.features in
    let a = may_edit (seen_desk p ss) name h [] w.keeping ord may in
    let b = note_bridge at bt name d.was d.is ss ts h after d.change d.noted (record {
      here = e.edit.features.here;
      others = e.edit.features.others;
    }) w.keeping.apart a.0 in
    (b.session, record { project = e; session = b.change })

pub set_world : (p q : Project) (name : List ℕ) (ss ts : List KeptSession) (h : ℕ) (f : Feature) (after : Option Feature)
    → IsStore p.classes p.features p.next → IsWorld p ss → IsOrdered p
    → refusal_of (seen_desk p ss) (Delete name h) ≡ None → feature_at p.features h ≡ Some f → IsFeatureSet h after p q
    → calls.IsNoted name (record { handle = h; kept = feature_at p.features h }) ss ts → IsWorld q ts
set_world p q name ss ts h f after store w ord may live e d =
    let still : (k : ℕ) (x : Option Feature) → May p k x → May q k x = λ k x. may_in p.classes q.classes p.next q.next k x e.edit.classes
    e.next in
    let a = may_edit (seen_desk p ss) name h [] w.keeping ord may in
    record {
      keeping = altered_keeps name h after (seen_desk p ss) (seen_desk q ts) w.keeping a.0 a.1
          (set_done p q name ss ts h after w ord may e d);
      may = may_changed p q name d.was d.is ss ts d.change still
          (noted_may (May p) (May q) d.was (record { handle = h; kept = feature_at p.features h }) d.is still d.noted
          (named_has (MayAll (May p)) ss name d.was d.change.there w.may) (still h (feature_at p.features h)
          (live_may p h f store live))) w.may;
    }

-- ---- a feature comes
may_more : (p q : Project) (k : ℕ) (x : Option Feature) → q.classes ≡ p.classes → q.next ≡ p.next + 1 → May p k x → May q k x
may_more p q k x c n m = record {
  from_1 = m.from_1;
  given = (let g = m.given in omega (arith, g, n));
  own = m.own;
  fits =
      subst (λ es. IfSome x (IsOfClass es)) (sym c) m.fits;
}

pub add_done : (p q : Project) (name : List ℕ) (ss ts : List KeptSession) (class subtype : ℕ) (shape : Shape) (h : ℕ) → IsWorld p ss
    → IsFeatureAdded class subtype shape h p q
    → calls.IsNoted name (record { handle = h; kept = None }) ss ts → LeavesNoted name (added_step h class subtype shape)
    (IsFeatureAdded class subtype shape h) (seen_desk p ss) (seen_desk q ts)
add_done p q name ss ts class subtype shape h w e d =
    let at = feature_at p.features in
    let bt = feature_at q.features in
    let x : Option Feature = Some (feature_of h class subtype shape) in
    let alone = subst (IsAlone (seen at ss) name) (sym e.number) (fresh_alone p.next name (seen at ss) w.keeping.given) in
    let noted = subst (λ o. IsKeptNoted d.was (record { handle = h; kept = o }) d.is) (sym e.absent) d.noted in
    let b = note_bridge at bt name d.was d.is ss ts h x d.change noted (record {
      here = e.edit.features.here;
      others =
          e.edit.features.others;
    }) w.keeping.apart alone in
    let n = subst (λ o. IsNoted name (record { handle = h; before = o; after = x }) (seen at ss) (seen bt ts)) e.absent b in
    (n.session, record { project = e; session = n.change })

pub add_world : (p q : Project) (name : List ℕ) (ss ts : List KeptSession) (class subtype : ℕ) (shape : Shape) (h : ℕ)
    → IsStore p.classes p.features p.next → IsWorld p ss → IsFeatureAdded class subtype shape h p q
    → calls.IsNoted name (record { handle = h; kept = None }) ss ts → IsWorld q ts
add_world p q name ss ts class subtype shape h store w e d =
    let still : (k : ℕ) (x : Option Feature) → May p k x → May q k x = λ k x. may_more p q k x e.edit.classes e.next in
    let one : 1 ≤ h = (let n = e.number in let f = store.from_1 in omega (arith, n, f)) in
    let below : h < q.next = (let n = e.number in let m = e.next in omega (arith, n, m)) in
    let step : May q h None = record { from_1 = one; given = below; own = tt; fits = tt } in
    record {
      keeping = added_keeps name class subtype shape h (seen_desk p ss) (seen_desk q ts) w.keeping (add_done p q name ss ts class subtype shape h w e d);
      may = may_changed p q name d.was d.is ss ts d.change still (noted_may (May p) (May q) d.was (record { handle = h; kept = None }) d.is
          still d.noted (named_has (MayAll (May p)) ss name d.was d.change.there w.may) step) w.may;
    }

-- ---- the features stay
pub seen_same : (p q : Project) (ss : List KeptSession) → q.features ≡ p.features
    → seen (feature_at q.features) ss ≡ seen (feature_at p.features) ss
seen_same p q ss f = ap (λ F. seen (feature_at F) ss) f

other_world : (p q : Project) (ss : List KeptSession) → q.features ≡ p.features → q.next ≡ p.next
    → ((k : ℕ) (x : Option Feature) → May p k x → May q k x) → IsWorld p ss → IsWorld q ss
other_world p q ss f n still w = record {
  keeping = same_keeps (seen_desk p ss) (seen_desk q ss) w.keeping (seen_same p q ss f) f n;
  may = all_still (May p) (May q) ss still w.may;
}

pub stays_world : (p q : Project) (ss : List KeptSession) → q.features ≡ p.features → q.next ≡ p.next → q.classes ≡ p.classes
    → IsWorld p ss → IsWorld q ss
stays_world p q ss f n c w = other_world p q ss f n (λ k x. may_in p.classes q.classes p.next q.next k x c n) w

may_class : (p q : Project) (d : Class) (k : ℕ) (x : Option Feature) → q.classes ≡ p.classes ++ d ∷ [] → q.next ≡ p.next → May p k x
    → May q k x
may_class p q d k x c n m = record {
  from_1 = m.from_1;
  given = subst (λ j. k < j) (sym n) m.given;
  own = m.own;
  fits = subst (λ es. IfSome x (IsOfClass es)) (sym c) (by x m.fits);
}
  where
    by : (y : Option Feature) → IfSome y (IsOfClass p.classes) → IfSome y (IsOfClass (p.classes ++ d ∷ []))
    by None h = tt
    by (Some f) h = kind_end p.classes d f.class f.shape.kind h

pub class_world : (p q : Project) (ss : List KeptSession) (d : Class) → q.classes ≡ p.classes ++ d ∷ [] → q.features ≡ p.features
    → q.next ≡ p.next → IsWorld p ss → IsWorld q ss
class_world p q ss d c f n w = other_world p q ss f n (λ k x. may_class p q d k x c n) w

-- ---- room alone
pub room_done : (p : Project) (name : List ℕ) (ss ts : List KeptSession) → calls.IsRoomMade name ss ts → seen_desk p ts ≡ seen_desk p ss
room_done p name ss ts r = ap (λ xs. record { project = p; sessions = xs }) (room_bridge (feature_at p.features) name r.was r.is ss ts
    r.change r.same)

pub room_world : (p : Project) (name : List ℕ) (ss ts : List KeptSession) → calls.IsRoomMade name ss ts → IsWorld p ss → IsWorld p ts
room_world p name ss ts r w =
    let m = named_has (MayAll (May p)) ss name r.was r.change.there w.may in
    let each : MayAll (May p) r.is = record {
      done = subst (Every (λ (x : KeptStep). May p x.handle x.kept)) (sym r.same.done) m.done;
      undone = subst (Every (λ (x : KeptStep). May p x.handle x.kept)) (sym r.same.undone) m.undone;
    } in
    record {
      keeping = subst IsKeeping (sym (room_done p name ss ts r)) w.keeping;
      may = may_changed p p name r.was r.is ss ts r.change (λ k x h. h) each w.may;
    }
