-- What a call of the sessions answers is what the line of a session is answered.
use Rattle.std.proofs.Common.{◌≡◌, ◌≢◌, ◌<◌, ◌++◌, ℕ, true, false, List, [], ◌∷◌, length, Option, Some, None, refl, sym, ◌∙◌, ap, subst, inl, inr, arith, eqb, length-append}
use Rattle.std.proofs.lemmas.Bool.Decides.{nat_tests}
use Rattle.std.specs.Prelude.{Result, Ok, Err, IfOk, OnOk, IfErr, OnErr, MatchResult, is_some, bytes_eq}
use Rattle.std.specs.Option.{option_map_or}
use Rattle.topology_terms.specs.Causes.{first_of}
use Rattle.topology_terms.specs.declared.cause.Cause.TheVariants.{NoFeature}
use Rattle.topology_terms.specs.Feature.{Feature, feature_at}
use Rattle.topology_terms.specs.Poster.{poster}
use Rattle.topology_terms.specs.Project.{Project}
use Rattle.topology_terms.specs.Session.{EditStep, Session}
use Rattle.topology_terms.specs.Settled.{IsSettled}
use Rattle.topology_terms.specs.Sound.{IsSound}
use Rattle.line_terms.specs.Commands.{Command, Begin, End, Discard, Delete, Undo, Redo}
use Rattle.session_terms.specs.Kept.{KeptStep, KeptSession, seen_session, seen}
use Rattle.session_terms.specs.KeptChanges.{kept_named, without_kept, kept_holder}
use Rattle.edit_session.specs.Faults.{IsBeginFault, IsEndFault, IsUndoFault, IsRedoFault}
use Rattle.edit_session.specs.SessionsCalls as calls
use Rattle.edit_session.specs.declared.fault.SessionFault.{SessionFault}
use Rattle.edit_session.specs.declared.fault.SessionFault.TheVariants as fault
use Rattle.edit_session.specs.OverTopologies.{IsGroundSwap}
use Rattle.edit_session.proofs.Undoing.{chain_sound, chain_settled}
use Rattle.script_terms.proofs.Bridges.{there_seen}
use Rattle.script_terms.specs.Answer.{Answers}
use Rattle.script_terms.specs.Refusal.{Refusal, Change, NoSession, HeldBy}
use Rattle.script_terms.specs.Refusing.{refusal_of, steps_of, held_by}
use Rattle.script_terms.specs.Reply.{Done}
use Rattle.script_terms.specs.State.{Desk, is_open}
use Rattle.reply_text.specs.Replies.{said_of}
use Rattle.reply_text.specs.declared.reply.Reply.{Reply}
use Rattle.command_answers.specs.Refusals.{SaysRefusal, session_refusal}
use Rattle.command_answers.specs.Worlds.{seen_desk, IsWorld}
use Rattle.command_answers.proofs.Answering.{refused, done}
use Rattle.command_answers.proofs.KeptLists.{open_seen, length_seen, holder_seen}
use Rattle.command_answers.proofs.Sessions.{Chain, begin_done, begin_world, end_done, end_world, undo_done, undo_world, redo_done, redo_world, discard_done, discard_world, part_world}

-- ---- why a line is refused
opened : (p : Project) (ss : List KeptSession) (name : List ℕ) (s : KeptSession) → kept_named ss name ≡ Some s
    → is_open (seen_desk p ss) name ≡ true
opened p ss name s e = open_seen (feature_at p.features) ss name ∙ ap is_some e

closed : (p : Project) (ss : List KeptSession) (name : List ℕ) → kept_named ss name ≡ None → is_open (seen_desk p ss) name ≡ false
closed p ss name e = open_seen (feature_at p.features) ss name ∙ ap is_some e

begin_refusal : (p : Project) (ss : List KeptSession) (name : List ℕ) (e : SessionFault) (x : Refusal) → IsBeginFault ss name e
    → session_refusal e ≡ Some x → refusal_of (seen_desk p ss) (Begin name) ≡ Some x
begin_refusal p ss name fault.OpenAlready x b r = rw (opened p ss name b.session b.there) r
begin_refusal p ss name fault.SessionsFull x b r =
    let full : eqb (length (seen (feature_at p.features) ss)) 16 ≡ true = ap (λ n. eqb n 16) (length_seen (feature_at p.features) ss
    ∙ b.full) in
    rw (closed p ss name b.free, full) r
begin_refusal p ss name fault.NoSession x b r = absurd b
begin_refusal p ss name fault.NothingToUndo x b r = absurd b
begin_refusal p ss name fault.NothingToRedo x b r = absurd b
begin_refusal p ss name fault.NoMemory x b r = cc

begin_free : (p : Project) (ss : List KeptSession) (name : List ℕ) → kept_named ss name ≡ None → length ss < 16
    → refusal_of (seen_desk p ss) (Begin name) ≡ None
begin_free p ss name e few =
    let l : length (seen (feature_at p.features) ss) ≡ length ss = length_seen (feature_at p.features) ss in
    let left : eqb (length (seen (feature_at p.features) ss)) 16 ≡ false = grind (arith, nat_tests, few, l) in
    rw (closed p ss name e, left) refl

end_refusal : (p : Project) (ss : List KeptSession) (name : List ℕ) (e : SessionFault) (x : Refusal) → IsEndFault ss name e
    → session_refusal e ≡ Some x → refusal_of (seen_desk p ss) (End name) ≡ Some x
end_refusal p ss name fault.NoSession x b r = rw (closed p ss name b) r
end_refusal p ss name fault.OpenAlready x b r = absurd b
end_refusal p ss name fault.SessionsFull x b r = absurd b
end_refusal p ss name fault.NothingToUndo x b r = absurd b
end_refusal p ss name fault.NothingToRedo x b r = absurd b
end_refusal p ss name fault.NoMemory x b r = absurd b

end_free : (p : Project) (ss : List KeptSession) (name : List ℕ) → kept_named ss name ≢ None → refusal_of (seen_desk p ss) (End name) ≡ None
end_free p ss name there = by (kept_named ss name) refl
  where
    by : (o : Option KeptSession) → kept_named ss name ≡ o → refusal_of (seen_desk p ss) (End name) ≡ None
    by None e = absurd (there e)
    by (Some s) e = rw (opened p ss name s e) refl

-- the steps of the editor's session
steps_seen : (p : Project) (ss : List KeptSession) (name : List ℕ) (s : KeptSession) (steps : Session → List EditStep)
    → kept_named ss name ≡ Some s
    → steps_of steps (seen_desk p ss) name ≡ steps (seen_session (feature_at p.features) s)
steps_seen p ss name s steps e = ap (λ (o : Option Session). option_map_or steps o []) (there_seen (feature_at p.features) ss name s e)

no_steps : (s : KeptSession) (at : ℕ → Option Feature) → s.done ≡ [] → (seen_session at s).done ≡ []
no_steps s at e = rw e refl

none_undone : (s : KeptSession) (at : ℕ → Option Feature) → s.undone ≡ [] → (seen_session at s).undone ≡ []
none_undone s at e = rw e refl

undo_refusal : (p : Project) (ss : List KeptSession) (name : List ℕ) (e : SessionFault) (x : Refusal) → IsUndoFault ss name e
    → session_refusal e ≡ Some x → refusal_of (seen_desk p ss) (Undo name) ≡ Some x
undo_refusal p ss name fault.NoSession x b r = rw (closed p ss name b) r
undo_refusal p ss name fault.NothingToUndo x b r =
    let none = steps_seen p ss name b.session (λ (y : Session). y.done) b.there ∙ no_steps b.session (feature_at p.features) b.none in
    rw (opened p ss name b.session b.there, none) r
undo_refusal p ss name fault.OpenAlready x b r = absurd b
undo_refusal p ss name fault.SessionsFull x b r = absurd b
undo_refusal p ss name fault.NothingToRedo x b r = absurd b
undo_refusal p ss name fault.NoMemory x b r = cc

redo_refusal : (p : Project) (ss : List KeptSession) (name : List ℕ) (e : SessionFault) (x : Refusal) → IsRedoFault ss name e
    → session_refusal e ≡ Some x → refusal_of (seen_desk p ss) (Redo name) ≡ Some x
redo_refusal p ss name fault.NoSession x b r = rw (closed p ss name b) r
redo_refusal p ss name fault.NothingToRedo x b r =
    let none = steps_seen p ss name b.session (λ (y : Session). y.undone) b.there ∙ none_undone b.session (feature_at p.features) b.none in
    rw (opened p ss name b.session b.there, none) r
redo_refusal p ss name fault.OpenAlready x b r = absurd b
redo_refusal p ss name fault.SessionsFull x b r = absurd b
redo_refusal p ss name fault.NothingToUndo x b r = absurd b
redo_refusal p ss name fault.NoMemory x b r = cc

some_done : (xs ys : List EditStep) (t : EditStep) → xs ≡ ys ++ t ∷ [] → eqb (length xs) 0 ≡ false
some_done xs ys t e = let l : length (ys ++ t ∷ []) ≡ length xs = ap length (sym e)
    in grind (arith, nat_tests, l, length-append ys (t ∷ []))

some_undone : (xs ys : List EditStep) (t : EditStep) → xs ≡ t ∷ ys → eqb (length xs) 0 ≡ false
some_undone xs ys t e = let l : length (t ∷ ys) ≡ length xs = ap length (sym e) in grind (arith, nat_tests, l)

undo_free : (p q : Project) (ss ts : List KeptSession) (name : List ℕ) → IsWorld p ss → calls.IsUndone (IsGroundSwap poster) name ss ts p q
    → refusal_of (seen_desk p ss) (Undo name) ≡ None
undo_free p q ss ts name w d =
    let u = undo_done p q name ss ts w.keeping d in
    let some : eqb (length (steps_of (λ (y : Session). y.done) (seen_desk p ss) name)) 0 ≡ false =
    ap (λ (o : Option Session). eqb (length (option_map_or (λ (y : Session). y.done) o [])) 0) u.4.session.there
    ∙ some_done u.1.done u.2.done u.0 u.3.done in
    rw (opened p ss name d.was d.change.there, some) refl

redo_free : (p q : Project) (ss ts : List KeptSession) (name : List ℕ) → IsWorld p ss → calls.IsRedone (IsGroundSwap poster) name ss ts p q
    → refusal_of (seen_desk p ss) (Redo name) ≡ None
redo_free p q ss ts name w d =
    let u = redo_done p q name ss ts w.keeping d in
    let some : eqb (length (steps_of (λ (y : Session). y.undone) (seen_desk p ss) name)) 0 ≡ false =
    ap (λ (o : Option Session). eqb (length (option_map_or (λ (y : Session). y.undone) o [])) 0) u.4.session.there
    ∙ some_undone u.1.undone u.2.undone u.0 u.3.undone in
    rw (opened p ss name d.was d.change.there, some) refl

-- ---- each line
abbrev pub Says : {T : Type 0} → Result T SessionFault → Reply → Type 0
Says called r = MatchResult called (λ x. (p : Project) → said_of p r ≡ Done) (λ e. SaysRefusal (session_refusal e) r)

-- refused for the fault that the call told
told : (s t : Desk) (c : Command) (q : Project) (o : Option Refusal) (r : Reply) → ((x : Refusal) → o ≡ Some x → refusal_of s c ≡ Some x)
    → SaysRefusal o r → t ≡ s → Answers s c (said_of q r) t
told s t c q None r why said same = absurd said
told s t c q (Some x) r why said same = refused s t c (said_of q r) x (why x refl) (said q) same

pub begin_replied : {T E : Type 0} (p : Project) (ss ts : List KeptSession) (name : List ℕ) (begun : Result T SessionFault)
    (reply : Result Reply E)
    → OnOk begun (calls.IsBegun name ss ts) → IfErr begun (IsBeginFault ss name) → OnErr begun (ts ≡ ss) → IfOk reply (Says begun)
    → IfOk reply (λ r. Answers (seen_desk p ss) (Begin name) (said_of p r) (seen_desk p ts))
begin_replied p ss ts name begun (Err e) ok err kept said = tt
begin_replied p ss ts name (Ok u) (Ok r) ok err kept said = rw (said p) (done (seen_desk p ss) (seen_desk p ts) (Begin name) Done
    (begin_free p ss name ok.free ok.few) (refl, begin_done p name ss ts ok))
begin_replied p ss ts name (Err e) (Ok r) ok err kept said = told (seen_desk p ss) (seen_desk p ts) (Begin name) p (session_refusal e) r
    (λ x k. begin_refusal p ss name e x err k) said (ap (seen_desk p) kept)

pub begin_kept : {T : Type 0} (p : Project) (ss ts : List KeptSession) (name : List ℕ) (begun : Result T SessionFault) → IsWorld p ss
    → OnOk begun (calls.IsBegun name ss ts) → OnErr begun (ts ≡ ss) → IsWorld p ts
begin_kept p ss ts name (Ok u) w ok kept = begin_world p name ss ts ok w
begin_kept p ss ts name (Err e) w ok kept = subst (IsWorld p) (sym kept) w

pub end_replied : {T E : Type 0} (p : Project) (ss ts : List KeptSession) (name : List ℕ) (ended : Result T SessionFault)
    (reply : Result Reply E)
    → OnOk ended (ts ≡ without_kept ss name) → OnOk ended (kept_named ss name ≢ None) → IfErr ended (IsEndFault ss name)
    → OnErr ended (ts ≡ ss) → IfOk reply (Says ended)
    → IfOk reply (λ r. Answers (seen_desk p ss) (End name) (said_of p r) (seen_desk p ts))
end_replied p ss ts name ended (Err e) ok there err kept said = tt
end_replied p ss ts name (Ok u) (Ok r) ok there err kept said = rw (said p) (done (seen_desk p ss) (seen_desk p ts) (End name) Done
    (end_free p ss name there) (refl, end_done p name ss ts ok))
end_replied p ss ts name (Err e) (Ok r) ok there err kept said = told (seen_desk p ss) (seen_desk p ts) (End name) p (session_refusal e) r
    (λ x k. end_refusal p ss name e x err k) said (ap (seen_desk p) kept)

pub end_kept : {T : Type 0} (p : Project) (ss ts : List KeptSession) (name : List ℕ) (ended : Result T SessionFault) → IsWorld p ss
    → OnOk ended (ts ≡ without_kept ss name) → OnErr ended (ts ≡ ss) → IsWorld p ts
end_kept p ss ts name (Ok u) w ok kept = end_world p name ss ts ok w
end_kept p ss ts name (Err e) w ok kept = subst (IsWorld p) (sym kept) w

-- after a refusal the sessions are as they were, and so is the topology
abbrev pub Still : Project → Project → Type 0
Still p q = calls.IsStill (λ (g h : Project). h ≡ g) p q

pub still : (p q : Project) → Still p q → q ≡ p
still p q (inl e) = e
still p q (inr e) = e

pub still_state : (p q : Project) (ss ts : List KeptSession) → ts ≡ ss → Still p q → seen_desk q ts ≡ seen_desk p ss
still_state p q ss ts e s = ap (λ (r : Project). seen_desk r ts) (still p q s) ∙ ap (seen_desk p) e

still_world : (p q : Project) (ss ts : List KeptSession) → ts ≡ ss → Still p q → IsWorld p ss → IsWorld q ts
still_world p q ss ts e s w = subst (λ (r : Project). IsWorld r ts) (sym (still p q s)) (subst (IsWorld p) (sym e) w)

pub undo_replied : {T E : Type 0} (p q : Project) (ss ts : List KeptSession) (name : List ℕ) (called : Result T SessionFault)
    (reply : Result Reply E) → IsWorld p ss
    → OnOk called (calls.IsUndone (IsGroundSwap poster) name ss ts p q) → IfErr called (IsUndoFault ss name) → OnErr called (ts ≡ ss)
    → OnErr called (Still p q) → IfOk reply (Says called)
    → IfOk reply (λ r. Answers (seen_desk p ss) (Undo name) (said_of q r) (seen_desk q ts))
undo_replied p q ss ts name called (Err e) w ok err kept same said = tt
undo_replied p q ss ts name (Ok u) (Ok r) w ok err kept same said = rw (said q) (done (seen_desk p ss) (seen_desk q ts) (Undo name) Done
    (undo_free p q ss ts name w ok) (refl, undo_done p q name ss ts w.keeping ok))
undo_replied p q ss ts name (Err e) (Ok r) w ok err kept same said = told (seen_desk p ss) (seen_desk q ts) (Undo name) q (session_refusal e)
    r (λ x k. undo_refusal p ss name e x err k) said (still_state p q ss ts kept same)

pub undo_kept : {T : Type 0} (p q : Project) (ss ts : List KeptSession) (name : List ℕ) (called : Result T SessionFault) → IsWorld p ss
    → OnOk called (calls.IsUndone (IsGroundSwap poster) name ss ts p q) → OnErr called (ts ≡ ss) → OnErr called (Still p q) → IsWorld q ts
undo_kept p q ss ts name (Ok u) w ok kept same = undo_world p q name ss ts ok w
undo_kept p q ss ts name (Err e) w ok kept same = still_world p q ss ts kept same w

pub redo_replied : {T E : Type 0} (p q : Project) (ss ts : List KeptSession) (name : List ℕ) (called : Result T SessionFault)
    (reply : Result Reply E) → IsWorld p ss
    → OnOk called (calls.IsRedone (IsGroundSwap poster) name ss ts p q) → IfErr called (IsRedoFault ss name) → OnErr called (ts ≡ ss)
    → OnErr called (Still p q) → IfOk reply (Says called)
    → IfOk reply (λ r. Answers (seen_desk p ss) (Redo name) (said_of q r) (seen_desk q ts))
redo_replied p q ss ts name called (Err e) w ok err kept same said = tt
redo_replied p q ss ts name (Ok u) (Ok r) w ok err kept same said = rw (said q) (done (seen_desk p ss) (seen_desk q ts) (Redo name) Done
    (redo_free p q ss ts name w ok) (refl, redo_done p q name ss ts w.keeping ok))
redo_replied p q ss ts name (Err e) (Ok r) w ok err kept same said = told (seen_desk p ss) (seen_desk q ts) (Redo name) q (session_refusal e)
    r (λ x k. redo_refusal p ss name e x err k) said (still_state p q ss ts kept same)

pub redo_kept : {T : Type 0} (p q : Project) (ss ts : List KeptSession) (name : List ℕ) (called : Result T SessionFault) → IsWorld p ss
    → OnOk called (calls.IsRedone (IsGroundSwap poster) name ss ts p q) → OnErr called (ts ≡ ss) → OnErr called (Still p q) → IsWorld q ts
redo_kept p q ss ts name (Ok u) w ok kept same = redo_world p q name ss ts ok w
redo_kept p q ss ts name (Err e) w ok kept same = still_world p q ss ts kept same w

-- ---- a discard
abbrev pub DiscardFault : List ℕ → List KeptSession → List KeptSession → Project → Project → SessionFault → Type 0
DiscardFault name ss ts p q e = calls.IsDiscardFault (IsGroundSwap poster) (λ (g h : Project). h ≡ g) name ss ts p q e

discard_free : (p q : Project) (ss ts : List KeptSession) (name : List ℕ) → calls.IsDiscarded (IsGroundSwap poster) name ss ts p q
    → refusal_of (seen_desk p ss) (Discard name) ≡ None
discard_free p q ss ts name d = rw (opened p ss name d.was d.there) refl

discard_told : (p q : Project) (ss ts : List KeptSession) (name : List ℕ) (e : SessionFault) (r : Reply) → DiscardFault name ss ts p q e
    → SaysRefusal (session_refusal e) r
    → Answers (seen_desk p ss) (Discard name) (said_of q r) (seen_desk q ts)
discard_told p q ss ts name fault.NoSession r d said =
    refused (seen_desk p ss) (seen_desk q ts) (Discard name) (said_of q r) NoSession (rw (closed p ss name d.absent) refl) (said q)
    (ap (λ (x : Project). seen_desk x ts) d.features ∙ ap (seen_desk p) d.sessions)
discard_told p q ss ts name fault.NoMemory r d said = absurd said
discard_told p q ss ts name fault.OpenAlready r d said = absurd d
discard_told p q ss ts name fault.SessionsFull r d said = absurd d
discard_told p q ss ts name fault.NothingToUndo r d said = absurd d
discard_told p q ss ts name fault.NothingToRedo r d said = absurd d

pub discard_replied : {T E : Type 0} (p q : Project) (ss ts : List KeptSession) (name : List ℕ) (called : Result T SessionFault)
    (reply : Result Reply E) → IsWorld p ss
    → OnOk called (calls.IsDiscarded (IsGroundSwap poster) name ss ts p q) → IfErr called (DiscardFault name ss ts p q)
    → IfOk reply (Says called)
    → IfOk reply (λ r. Answers (seen_desk p ss) (Discard name) (said_of q r) (seen_desk q ts))
discard_replied p q ss ts name called (Err e) w ok err said = tt
discard_replied p q ss ts name (Ok u) (Ok r) w ok err said = rw (said q) (done (seen_desk p ss) (seen_desk q ts) (Discard name) Done
    (discard_free p q ss ts name ok) (refl, discard_done p q name ss ts w.keeping ok))
discard_replied p q ss ts name (Err e) (Ok r) w ok err said = discard_told p q ss ts name e r err said

pub discard_kept : {T : Type 0} (p q : Project) (ss ts : List KeptSession) (name : List ℕ) (called : Result T SessionFault) → IsWorld p ss
    → OnOk called (calls.IsDiscarded (IsGroundSwap poster) name ss ts p q) → IfErr called (DiscardFault name ss ts p q) → IsWorld q ts
discard_kept p q ss ts name (Ok u) w ok err = discard_world p q name ss ts ok w
discard_kept p q ss ts name (Err fault.NoMemory) w ok err = part_world p q name ss ts err w
discard_kept p q ss ts name (Err fault.NoSession) w ok err = subst (λ (r : Project). IsWorld r ts) (sym err.features)
    (subst (IsWorld p) (sym err.sessions) w)
discard_kept p q ss ts name (Err fault.OpenAlready) w ok err = absurd err
discard_kept p q ss ts name (Err fault.SessionsFull) w ok err = absurd err
discard_kept p q ss ts name (Err fault.NothingToUndo) w ok err = absurd err
discard_kept p q ss ts name (Err fault.NothingToRedo) w ok err = absurd err

-- ---- what was sound stays so, and what was settled stays so
abbrev pub Stays : Project → Project → Type 0
Stays p q = (IsSound p → IsSound q) × (IsSettled p → IsSettled q)

same_stays : (p q : Project) → q ≡ p → Stays p q
same_stays p q e = (λ s. subst IsSound (sym e) s, λ s. subst IsSettled (sym e) s)

pub undo_stays : {T : Type 0} (p q : Project) (ss ts : List KeptSession) (name : List ℕ) (called : Result T SessionFault)
    → OnOk called (calls.IsUndone (IsGroundSwap poster) name ss ts p q) → OnErr called (Still p q) → Stays p q
undo_stays p q ss ts name (Ok u) ok same = (ok.undone.undone.swap.sound, ok.undone.undone.swap.settled)
undo_stays p q ss ts name (Err e) ok same = same_stays p q (still p q same)

pub redo_stays : {T : Type 0} (p q : Project) (ss ts : List KeptSession) (name : List ℕ) (called : Result T SessionFault)
    → OnOk called (calls.IsRedone (IsGroundSwap poster) name ss ts p q) → OnErr called (Still p q) → Stays p q
redo_stays p q ss ts name (Ok u) ok same = (ok.redone.redone.swap.sound, ok.redone.redone.swap.settled)
redo_stays p q ss ts name (Err e) ok same = same_stays p q (still p q same)

chain_stays : (ts : List KeptStep) (s u : KeptSession) (p q : Project) → Chain ts s u p q → Stays p q
chain_stays ts s u p q c = (λ k. chain_sound poster ts s u p q c k, λ k. chain_settled poster ts s u p q c k)

pub discard_stays : {T : Type 0} (p q : Project) (ss ts : List KeptSession) (name : List ℕ) (called : Result T SessionFault)
    → OnOk called (calls.IsDiscarded (IsGroundSwap poster) name ss ts p q) → IfErr called (DiscardFault name ss ts p q) → Stays p q
discard_stays p q ss ts name (Ok u) ok err = chain_stays ok.was.done ok.was ok.last p q ok.undone
discard_stays p q ss ts name (Err fault.NoMemory) ok err =
    let c = err.cut_short in
    chain_stays c.undone err.was err.is p q (subst (Chain c.undone err.was err.is p) (sym c.then) c.chain)
discard_stays p q ss ts name (Err fault.NoSession) ok err = same_stays p q err.features
discard_stays p q ss ts name (Err fault.OpenAlready) ok err = absurd err
discard_stays p q ss ts name (Err fault.SessionsFull) ok err = absurd err
discard_stays p q ss ts name (Err fault.NothingToUndo) ok err = absurd err
discard_stays p q ss ts name (Err fault.NothingToRedo) ok err = absurd err

-- ---- who holds a handle
pub held_none : (o : Option (List ℕ)) (editor : List ℕ) → o ≡ None → held_by o editor ≡ None
held_none o editor e = rw e refl

pub held_own : (o : Option (List ℕ)) (name editor : List ℕ) → o ≡ Some name → bytes_eq name editor ≡ true → held_by o editor ≡ None
held_own o name editor e t = rw (e, t) refl

pub held_other : (o : Option (List ℕ)) (name editor : List ℕ) → o ≡ Some name → bytes_eq name editor ≡ false
    → held_by o editor ≡ Some (HeldBy name)
held_other o name editor e t = rw (e, t) refl

pub edit_absent : (p : Project) (ss : List KeptSession) (name : List ℕ) (h : ℕ) → is_open (seen_desk p ss) name ≡ true
    → feature_at p.features h ≡ None → refusal_of (seen_desk p ss) (Delete name h) ≡ Some (Change NoFeature)
edit_absent p ss name h there none = rw (there, none) refl

edit_by : (p : Project) (ss : List KeptSession) (name : List ℕ) (h : ℕ) (f : Feature) → is_open (seen_desk p ss) name ≡ true
    → feature_at p.features h ≡ Some f
    → refusal_of (seen_desk p ss) (Delete name h) ≡ first_of (held_by (kept_holder ss h) name ∷ [])
edit_by p ss name h f there live = rw (there, live, holder_seen (feature_at p.features) ss h) refl

pub edit_free : (p : Project) (ss : List KeptSession) (name : List ℕ) (h : ℕ) (f : Feature) → is_open (seen_desk p ss) name ≡ true
    → feature_at p.features h ≡ Some f → held_by (kept_holder ss h) name ≡ None
    → refusal_of (seen_desk p ss) (Delete name h) ≡ None
edit_free p ss name h f there live none = edit_by p ss name h f there live ∙ ap (λ o. first_of (o ∷ [])) none

pub edit_held : (p : Project) (ss : List KeptSession) (name : List ℕ) (h : ℕ) (f : Feature) (n : List ℕ)
    → is_open (seen_desk p ss) name ≡ true → feature_at p.features h ≡ Some f
    → held_by (kept_holder ss h) name ≡ Some (HeldBy n) → refusal_of (seen_desk p ss) (Delete name h) ≡ Some (HeldBy n)
edit_held p ss name h f n there live held = edit_by p ss name h f there live ∙ ap (λ o. first_of (o ∷ [])) held
