-- What the calls of the kept sessions and of the topology leave is what the commands leave.
use Rattle.std.proofs.Common.{ℕ, ◌≡◌, List, [], ◌∷◌, Option, Some, sym, ◌∙◌, ap, subst}
use Rattle.std.specs.Prelude.{is_some}
use Rattle.plane_terms.specs.Lists.{Every}
use Rattle.topology_terms.specs.Feature.{Feature, feature_at}
use Rattle.topology_terms.specs.Poster.{poster}
use Rattle.topology_terms.specs.Project.{Project}
use Rattle.topology_terms.specs.Session.{EditStep, Session}
use Rattle.session_terms.specs.Kept.{KeptStep, KeptSession, stood, done_of, seen_session, seen}
use Rattle.session_terms.specs.KeptChanges.{IsSet, IsKeptUndone, IsKeptRedone, IsKeptChange, kept_named, with_kept, without_kept}
use Rattle.session_terms.specs.Steps.{with_opened, without, AreAllApart, HoldsNone}
use Rattle.session_terms.proofs.Seen.{seen_opened, seen_without, all_seen}
use Rattle.session_terms.proofs.Chains.{HoldsNoneOf, named_apart}
use Rattle.edit_session.specs.Grounds.{IsMayStand, may_in}
use Rattle.edit_session.specs.Moves.{MayAll, IsStepUndone, AreUndoneOn}
use Rattle.edit_session.specs.SessionsCalls as calls
use Rattle.edit_session.proofs.Moves.{may_same, may_undone, may_redone}
use Rattle.edit_session.specs.OverTopologies.{IsGroundSwap}
use Rattle.edit_session.specs.OverTopologies as grounds
use Rattle.script_terms.specs.Answer.{IsUndone, IsRedone, IsDiscarded, AreTakenBack}
use Rattle.script_terms.specs.Keeping.{IsKeeping}
use Rattle.script_terms.specs.State.{Desk}
use Rattle.script_terms.proofs.Bridges.{there_seen, undo_bridge, redo_bridge}
use Rattle.script_terms.proofs.Commands.{begun_keeps, ended_keeps, discard_keeps, others_have, none_each}
use Rattle.script_terms.proofs.Keeping.{undo_keeps, redo_keeps}
use Rattle.command_answers.specs.Worlds.{seen_desk, AllMay, IsWorld}
use Rattle.command_answers.proofs.KeptLists.{named_has, with_has, without_has, opened_has, name_of, now_named, with_twice, with_same, open_seen}

abbrev pub May : Project → ℕ → Option Feature → Type 0
May p = IsMayStand p.classes p.next

-- ---- what may stand still may
pub all_still : (may can : ℕ → Option Feature → Type 0) (ss : List KeptSession) → ((k : ℕ) (x : Option Feature) → may k x → can k x)
    → Every (MayAll may) ss → Every (MayAll can) ss
all_still may can [] still h = tt
all_still may can (s ∷ ss) still h = (may_same may can s still h.0, all_still may can ss still h.1)

pub all_same : (p q : Project) (ss : List KeptSession) → q.classes ≡ p.classes → q.next ≡ p.next → AllMay p ss → AllMay q ss
all_same p q ss c n h = all_still (May p) (May q) ss (λ k x. may_in p.classes q.classes p.next q.next k x c n) h

-- ---- a session begins, and ends
abbrev with_sessions : Project → List Session → Desk
with_sessions p ss = record { project = p; sessions = ss }

pub begin_done : (p : Project) (name : List ℕ) (ss ts : List KeptSession) → calls.IsBegun name ss ts
    → seen_desk p ts ≡ record (seen_desk p ss) { sessions = with_opened (seen_desk p ss).sessions name }
begin_done p name ss ts b =
    let at = feature_at p.features in
    ap (with_sessions p) (ap (seen at) b.sessions ∙ (seen_opened at ss b.session b.done b.undone
    ∙ ap (λ n. with_opened (seen at ss) n) b.named))

pub begin_world : (p : Project) (name : List ℕ) (ss ts : List KeptSession) → calls.IsBegun name ss ts → IsWorld p ss → IsWorld p ts
begin_world p name ss ts b w = record {
  keeping = begun_keeps name (seen_desk p ss) (seen_desk p ts) w.keeping (open_seen (feature_at p.features) ss name ∙ ap is_some b.free)
      (begin_done p name ss ts b);
  may = subst (AllMay p) (sym b.sessions) (opened_has (MayAll (May p)) ss b.session
      (record {
        done = subst (λ xs. Every (λ (t : KeptStep). May p t.handle t.kept) xs) (sym b.done) tt;
        undone =
            subst (λ xs. Every (λ (t : KeptStep). May p t.handle t.kept) xs) (sym b.undone) tt;
      }) w.may);
}

pub end_done : (p : Project) (name : List ℕ) (ss ts : List KeptSession) → ts ≡ without_kept ss name
    → seen_desk p ts ≡ record (seen_desk p ss) { sessions = without (seen_desk p ss).sessions name }
end_done p name ss ts e = ap (with_sessions p) (ap (seen (feature_at p.features)) e ∙ seen_without (feature_at p.features) ss name)

pub end_world : (p : Project) (name : List ℕ) (ss ts : List KeptSession) → ts ≡ without_kept ss name → IsWorld p ss → IsWorld p ts
end_world p name ss ts e w = record {
  keeping = ended_keeps name (seen_desk p ss) (seen_desk p ts) w.keeping (end_done p name ss ts e);
  may = subst (AllMay p) (sym e) (without_has (MayAll (May p)) ss name w.may);
}

-- ---- a step is undone, or done again
step_done : (p q : Project) (name : List ℕ) (s u : KeptSession) (ss ts : List KeptSession) (t : KeptStep)
    → AreAllApart (seen (feature_at p.features) ss) → IsKeptChange name s u ss ts
    → IsStepUndone (IsGroundSwap poster) t s u p q → IsUndone name (seen_desk p ss) (seen_desk q ts)
step_done p q name s u ss ts t apart c d =
    let at = feature_at p.features in
    let bt = feature_at q.features in
    let set : IsSet t.handle t.kept at bt = record { here = d.swap.set.edit.features.here; others = d.swap.set.edit.features.others } in
    let kept : IsKeptUndone s t (at t.handle) u = subst (λ x. IsKeptUndone s t x u) d.swap.stood d.session in
    let b = undo_bridge at bt name s u ss ts t c kept set apart in (
      record { handle = t.handle; before = t.kept; after = at t.handle },
      seen_session at s,
      seen_session bt u,
      b.1,
      record { session = b.0; project = d.swap.set },
    )

pub undo_done : (p q : Project) (name : List ℕ) (ss ts : List KeptSession) → IsKeeping (seen_desk p ss)
    → calls.IsUndone (IsGroundSwap poster) name ss ts p q → IsUndone name (seen_desk p ss) (seen_desk q ts)
undo_done p q name ss ts k d = step_done p q name d.was d.is ss ts d.undone.step k.apart d.change d.undone.undone

pub redo_done : (p q : Project) (name : List ℕ) (ss ts : List KeptSession) → IsKeeping (seen_desk p ss)
    → calls.IsRedone (IsGroundSwap poster) name ss ts p q → IsRedone name (seen_desk p ss) (seen_desk q ts)
redo_done p q name ss ts k d =
    let at = feature_at p.features in
    let bt = feature_at q.features in
    let t = d.redone.step in
    let r = d.redone.redone in
    let set : IsSet t.handle t.kept at bt = record { here = r.swap.set.edit.features.here; others = r.swap.set.edit.features.others } in
    let kept : IsKeptRedone d.was t (at t.handle) d.is = subst (λ x. IsKeptRedone d.was t x d.is) r.swap.stood r.session in
    let b = redo_bridge at bt name d.was d.is ss ts t d.change kept set k.apart in (
      record { handle = t.handle; before = at t.handle; after = t.kept },
      seen_session at d.was,
      seen_session bt d.is,
      b.1,
      record { session = b.0; project = r.swap.set },
    )

-- the session of the name changed so that its steps may stand, and the others' still may
pub may_changed : (p q : Project) (name : List ℕ) (s u : KeptSession) (ss ts : List KeptSession) → IsKeptChange name s u ss ts
    → ((k : ℕ) (x : Option Feature) → May p k x → May q k x) → MayAll (May q) u → AllMay p ss → AllMay q ts
may_changed p q name s u ss ts c still m h = subst (AllMay q) (sym c.sessions) (with_has (MayAll (May q)) ss u
    (all_still (May p) (May q) ss still h) m)

pub undo_world : (p q : Project) (name : List ℕ) (ss ts : List KeptSession) → calls.IsUndone (IsGroundSwap poster) name ss ts p q
    → IsWorld p ss → IsWorld q ts
undo_world p q name ss ts d w =
    let t = d.undone.step in
    let u = d.undone.undone in
    record {
      keeping = undo_keeps name (seen_desk p ss) (seen_desk q ts) w.keeping (undo_done p q name ss ts w.keeping d);
      may = may_changed p q name d.was d.is ss ts d.change (λ k x. grounds.may_still poster t.handle u.stood t.kept p q k x u.swap)
          (may_undone (May p) (May q) d.was d.is t u.stood (λ k x. grounds.may_still poster t.handle u.stood t.kept p q k x u.swap)
          (λ m. grounds.may_again poster t.handle u.stood t.kept p q m u.swap) u.session
          (named_has (MayAll (May p)) ss name d.was d.change.there w.may)) w.may;
    }

pub redo_world : (p q : Project) (name : List ℕ) (ss ts : List KeptSession) → calls.IsRedone (IsGroundSwap poster) name ss ts p q
    → IsWorld p ss → IsWorld q ts
redo_world p q name ss ts d w =
    let t = d.redone.step in
    let u = d.redone.redone in
    record {
      keeping = redo_keeps name (seen_desk p ss) (seen_desk q ts) w.keeping (redo_done p q name ss ts w.keeping d);
      may = may_changed p q name d.was d.is ss ts d.change (λ k x. grounds.may_still poster t.handle u.stood t.kept p q k x u.swap)
          (may_redone (May p) (May q) d.was d.is t u.stood (λ k x. grounds.may_still poster t.handle u.stood t.kept p q k x u.swap)
          (λ m. grounds.may_again poster t.handle u.stood t.kept p q m u.swap) u.session
          (named_has (MayAll (May p)) ss name d.was d.change.there w.may)) w.may;
    }

-- ---- steps are taken back, the last one first
abbrev pub Chain : List KeptStep → KeptSession → KeptSession → Project → Project → Type 0
Chain ts s u p q = AreUndoneOn (IsGroundSwap poster) ts s u p q

chain_classes : (ts : List KeptStep) (s u : KeptSession) (p q : Project) → Chain ts s u p q → q.classes ≡ p.classes
chain_classes [] s u p q c = ap (λ (r : Project). r.classes) c.1
chain_classes (t ∷ ts) s u p q c = c.3.swap.set.edit.classes ∙ chain_classes ts s c.0 p c.1 c.2

chain_next : (ts : List KeptStep) (s u : KeptSession) (p q : Project) → Chain ts s u p q → q.next ≡ p.next
chain_next [] s u p q c = ap (λ (r : Project). r.next) c.1
chain_next (t ∷ ts) s u p q c = c.3.swap.set.next ∙ chain_next ts s c.0 p c.1 c.2

chain_may : (ts : List KeptStep) (s u : KeptSession) (p q : Project) → Chain ts s u p q → MayAll (May p) s → MayAll (May q) u
chain_may [] s u p q c m = subst (λ (r : Project). MayAll (May r) u) (sym c.1) (subst (MayAll (May p)) (sym c.0) m)
chain_may (t ∷ ts) s u p q c m =
    let d = c.3 in
    may_undone (May c.1) (May q) c.0 u t d.stood (λ k x. grounds.may_still poster t.handle d.stood t.kept c.1 q k x d.swap)
    (λ y. grounds.may_again poster t.handle d.stood t.kept c.1 q y d.swap) d.session
    (chain_may ts s c.0 p c.1 c.2 m)

taken : (at : ℕ → Option Feature) (ts : List KeptStep) (s u : KeptSession) (p q : Project) → Chain ts s u p q
    → AreTakenBack (done_of at ts) p q
taken at [] s u p q c = c.1
taken at (t ∷ ts) s u p q c = (c.1, taken at ts s c.0 p c.1 c.2, c.3.swap.set)

each_first : (t : EditStep) (ts : List EditStep) (ss : List Session) → Every (HoldsNoneOf (t ∷ ts)) ss
    → Every (λ (o : Session). HoldsNone o t.handle) ss × Every (HoldsNoneOf ts) ss
each_first t ts [] h = (tt, tt)
each_first t ts (o ∷ ss) h = let r = each_first t ts ss h.1 in ((h.0.0, r.0), (h.0.1, r.1))

-- what others are seen as stays
chain_seen : (at : ℕ → Option Feature) (ts : List KeptStep) (s u : KeptSession) (p q : Project) (ss : List KeptSession) → Chain ts s u p q
    → Every (HoldsNoneOf (done_of at ts)) (seen (feature_at p.features) ss)
    → seen (feature_at q.features) ss ≡ seen (feature_at p.features) ss
chain_seen at [] s u p q ss c h = ap (λ (r : Project). seen (feature_at r.features) ss) c.1
chain_seen at (t ∷ ts) s u p q ss c h =
    let f = each_first (record { handle = t.handle; before = t.kept; after = stood at ts t.handle }) (done_of at ts)
    (seen (feature_at p.features) ss) h in
    let r = chain_seen at ts s c.0 p c.1 ss c.2 f.1 in
    let none = subst (λ xs. Every (λ (o : Session). HoldsNone o t.handle) xs) (sym r) f.0 in
    all_seen (feature_at c.1.features) (feature_at q.features) t.handle ss c.3.swap.set.edit.features.others none ∙ r

pub discard_done : (p q : Project) (name : List ℕ) (ss ts : List KeptSession) → IsKeeping (seen_desk p ss)
    → calls.IsDiscarded (IsGroundSwap poster) name ss ts p q → IsDiscarded name (seen_desk p ss) (seen_desk q ts)
discard_done p q name ss ts k d =
    let at = feature_at p.features in
    let s = seen_session at d.was in
    let there = there_seen at ss name d.was d.there in
    let a = named_apart (seen at ss) name s there k.apart in
    let none = others_have (HoldsNoneOf s.done) (seen at ss) name k.apart (none_each s name (seen at ss) a.0 a.1) in
    let rest = subst (Every (HoldsNoneOf s.done)) (sym (seen_without at ss name)) none in
    record {
      session = s;
      there = there;
      taken_back = taken at d.was.done d.was d.last p q d.undone;
      sessions = ap (seen (feature_at q.features)) d.sessions ∙ (chain_seen at d.was.done d.was d.last p q (without_kept ss name) d.undone
          rest ∙ seen_without at ss name);
    }

pub discard_world : (p q : Project) (name : List ℕ) (ss ts : List KeptSession) → calls.IsDiscarded (IsGroundSwap poster) name ss ts p q
    → IsWorld p ss → IsWorld q ts
discard_world p q name ss ts d w = record {
  keeping = discard_keeps name (seen_desk p ss) (seen_desk q ts) w.keeping (discard_done p q name ss ts w.keeping d);
  may = subst (AllMay q) (sym d.sessions) (without_has (MayAll (May q)) ss name (all_same p q ss
      (chain_classes d.was.done d.was d.last p q d.undone) (chain_next d.was.done d.was d.last p q d.undone) w.may));
}

-- a discard that is cut short undoes the last steps
part_keeps : (name : List ℕ) (ss : List KeptSession) (s : KeptSession) (p : Project) → kept_named ss name ≡ Some s
    → IsKeeping (seen_desk p ss) → (ts : List KeptStep) (u : KeptSession) (q : Project) → Chain ts s u p q
    → IsKeeping (seen_desk q (with_kept ss u)) × (u.name ≡ s.name)
part_keeps name ss s p there k [] u q c =
    let same : with_kept ss u ≡ ss = ap (with_kept ss) c.0 ∙ with_same ss name s there in (
      subst (λ (r : Project). IsKeeping (seen_desk r (with_kept ss u))) (sym c.1) (subst (λ xs. IsKeeping (seen_desk p xs)) (sym same) k),
      ap
          (λ (x : KeptSession). x.name) c.0,
    )
part_keeps name ss s p there k (t ∷ ts) u q c =
    let r = part_keeps name ss s p there k ts c.0 c.1 c.2 in
    let m = c.0 in
    let n : m.name ≡ name = r.1 ∙ name_of ss name s there in
    let change : IsKeptChange name m u (with_kept ss m) (with_kept ss u) = record {
      there = now_named ss name s m there n;
      name =
          c.3.session.name;
      sessions = sym (with_twice ss m u c.3.session.name);
    } in (
      undo_keeps name (seen_desk c.1 (with_kept ss m)) (seen_desk q (with_kept ss u)) r.0
          (step_done c.1 q name m u (with_kept ss m) (with_kept ss u) t r.0.apart change c.3),
      c.3.session.name ∙ r.1,
    )

pub part_world : (p q : Project) (name : List ℕ) (ss ts : List KeptSession) → calls.IsDiscardedInPart (IsGroundSwap poster) (λ g h. h ≡ g)
    name ss ts p q → IsWorld p ss → IsWorld q ts
part_world p q name ss ts d w =
    let c = d.cut_short in
    let chain : Chain c.undone d.was d.is p q = subst (Chain c.undone d.was d.is p) (sym c.then) c.chain in
    record {
      keeping = subst (λ xs. IsKeeping (seen_desk q xs)) (sym d.change.sessions) (part_keeps name ss d.was p d.change.there w.keeping
          c.undone d.is q chain).0;
      may = may_changed p q name d.was d.is ss ts d.change
          (λ k x. may_in p.classes q.classes p.next q.next k x (chain_classes c.undone d.was d.is p q chain)
          (chain_next c.undone d.was d.is p q chain))
          (chain_may c.undone d.was d.is p q chain (named_has (MayAll (May p)) ss name d.was d.change.there w.may)) w.may;
    }
