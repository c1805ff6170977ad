-- What a call of the tree answers is what the line of versions is answered.
use Rattle.std.proofs.Common.{◌≡◌, ◌≢◌, ◌⊎◌, inl, inr, ℕ, Bool, true, false, List, [], ◌∷◌, length, Option, Some, None, refl, sym, ◌∙◌, ap, subst, eqb, arith}
use Rattle.std.proofs.lemmas.Bool.{eqb-true}
use Rattle.std.specs.Prelude.{Result, Ok, Err, IfOk, OnOk, IfErr, OnErr, MatchResult, is_some, is_none}
use Rattle.topology_terms.specs.Feature.{Feature, feature_at}
use Rattle.topology_terms.specs.Project.{Project}
use Rattle.session_terms.specs.Kept.{KeptSession, seen, seen_session}
use Rattle.version_terms.specs.VersionChanges.{IsCreated, IsGone, IsReconciled, IsPosted}
use Rattle.version_terms.specs.Versions.{Tree, Version as AVersion, has_base, place_of, version_of}
use Rattle.version_terms.specs.declared.place.Place.{Place}
use Rattle.version_tree.specs.Trees.{IsCreateFault, IsGoFault, IsReconcileFault, IsPostFault}
use Rattle.version_tree.specs.declared.fault.TreeFault.{TreeFault}
use Rattle.version_tree.specs.declared.fault.TreeFault.TheVariants as fault
use Rattle.version_tree.specs.declared.version.Merged.{Merged}
use Rattle.line_terms.specs.Commands.{Command, Version, In, Reconcile, Post}
use Rattle.script_terms.specs.Refusal.{Refusal, NoVersion, SessionsOpen, Stale, VersionTaken, VersionsFull}
use Rattle.script_terms.specs.Reply.{Done, Posted, Refused}
use Rattle.script_terms.specs.Reply as replies
use Rattle.script_terms.specs.State.{State}
use Rattle.script_terms.specs.Versions.{IsAnswered, IsMade, barred}
use Rattle.reply_text.specs.Replies.{said_of}
use Rattle.reply_text.specs.declared.reply.Reply.{Reply}
use Rattle.command_answers.specs.Refusals.{SaysRefusal, tree_refusal}
use Rattle.command_answers.specs.Worlds.{IsWorld, state_of}
use Rattle.command_answers.proofs.Headlines.{begun}

abbrev pub Says : {T : Type 0} → (T → Reply → Type 0) → Result T TreeFault → Reply → Type 0
Says done called r = MatchResult called (λ x. done x r) (λ e. SaysRefusal (tree_refusal e) r)

abbrev pub SaysDone : {T : Type 0} → T → Reply → Type 0
SaysDone x r = (p : Project) → said_of p r ≡ Done

refused : (s t : State) (c : Command) (reply : replies.Reply) (r : Refusal) → barred s c ≡ Some r → reply ≡ Refused r → t ≡ s
    → IsAnswered s c reply t
refused s t c reply r e said same = rw e (said, same)

made : (s t : State) (c : Command) (reply : replies.Reply) → barred s c ≡ None → IsMade s c reply t → IsAnswered s c reply t
made s t c reply e m = rw e m

there : (o : Option Place) → o ≢ None → is_some o ≡ true
there None n = absurd (n refl)
there (Some i) n = refl

other_number : (m n : ℕ) → m ≢ n → eqb m n ≡ false
other_number m n d = by (eqb m n) refl
  where
    by : (b : Bool) → eqb m n ≡ b → eqb m n ≡ false
    by true e = absurd (d (eqb-true m n e))
    by false e = e

-- ---- a session is open
some_open : {A : Type 0} (x : A) (xs : List A) → eqb (length (x ∷ xs)) 0 ≡ false
some_open x xs = other_number (length (x ∷ xs)) 0 (λ e. omega (arith, e))

pub made_barred : (t : Tree) (ss : List KeptSession) (name : List ℕ) → length ss ≢ 0
    → IsAnswered (state_of t ss) (Version name) (Refused SessionsOpen) (state_of t ss)
made_barred t [] name d = absurd (d refl)
made_barred t (s ∷ ss) name d =
    let at = feature_at t.current.project.features in rw (some_open (seen_session at s) (seen at ss)) (refl, refl)

pub gone_barred : (t : Tree) (ss : List KeptSession) (name : List ℕ) → length ss ≢ 0
    → IsAnswered (state_of t ss) (In name) (Refused SessionsOpen) (state_of t ss)
gone_barred t [] name d = absurd (d refl)
gone_barred t (s ∷ ss) name d =
    let at = feature_at t.current.project.features in rw (some_open (seen_session at s) (seen at ss)) (refl, refl)

pub merged_barred : (t : Tree) (ss : List KeptSession) (name : List ℕ) → length ss ≢ 0
    → IsAnswered (state_of t ss) (Reconcile name) (Refused SessionsOpen) (state_of t ss)
merged_barred t [] name d = absurd (d refl)
merged_barred t (s ∷ ss) name d =
    let at = feature_at t.current.project.features in rw (some_open (seen_session at s) (seen at ss)) (refl, refl)

pub posted_barred : (t : Tree) (ss : List KeptSession) (name : List ℕ) → length ss ≢ 0
    → IsAnswered (state_of t ss) (Post name) (Refused SessionsOpen) (state_of t ss)
posted_barred t [] name d = absurd (d refl)
posted_barred t (s ∷ ss) name d =
    let at = feature_at t.current.project.features in rw (some_open (seen_session at s) (seen at ss)) (refl, refl)

-- ---- `version`
create_refused : (t : Tree) (name : List ℕ) (e : TreeFault) (x : Refusal) → IsCreateFault name t e → tree_refusal e ≡ Some x
    → barred (state_of t []) (Version name) ≡ Some x
create_refused t name fault.Taken x k r = rw (there (place_of t name) k) r
create_refused t name fault.Full x k r = rw (k.0, k.1) r
create_refused t name fault.NoVersion x k r = absurd k
create_refused t name (fault.Stale h) x k r = absurd k
create_refused t name fault.NoMemory x k r = cc

create_free : (t u : Tree) (name : List ℕ) → IsCreated name t u → barred (state_of t []) (Version name) ≡ None
create_free t u name k = rw (k.free, other_number (length t.others) 8 k.few) refl

-- refused for the fault that the call told
told : (s t : State) (c : Command) (p : Project) (o : Option Refusal) (r : Reply) → ((x : Refusal) → o ≡ Some x → barred s c ≡ Some x)
    → SaysRefusal o r → t ≡ s → IsAnswered s c (said_of p r) t
told s t c p None r why said same = absurd said
told s t c p (Some x) r why said same = refused s t c (said_of p r) x (why x refl) (said p) same

pub made_answered : {T E : Type 0} (t u : Tree) (ss : List KeptSession) (name : List ℕ) (called : Result T TreeFault)
    (reply : Result Reply E) → length ss ≡ 0 → OnOk called (IsCreated name t u) → IfErr called (IsCreateFault name t)
    → OnErr called (u ≡ t) → IfOk reply (Says SaysDone called)
    → IfOk reply (λ r. IsAnswered (state_of t ss) (Version name) (said_of u.current.project r) (state_of u ss))
made_answered t u (s ∷ ss) name called reply none ok err kept said = absurd (omega (arith, none))
made_answered t u [] name called (Err e) none ok err kept said = tt
made_answered t u [] name (Ok x) (Ok r) none ok err kept said =
    made (state_of t []) (state_of u []) (Version name) (said_of u.current.project r) (create_free t u name ok)
    (said u.current.project, record { tree = ok; sessions = refl })
made_answered t u [] name (Err e) (Ok r) none ok err kept said =
    told (state_of t []) (state_of u []) (Version name) u.current.project (tree_refusal e) r (λ x k. create_refused t name e x err k) said
    (ap (λ (y : Tree). state_of y []) kept)

-- ---- `in`
go_refused : (t : Tree) (name : List ℕ) (e : TreeFault) (x : Refusal) → IsGoFault name t e → tree_refusal e ≡ Some x
    → barred (state_of t []) (In name) ≡ Some x
go_refused t name fault.NoVersion x k r = rw k r
go_refused t name fault.Taken x k r = absurd k
go_refused t name fault.Full x k r = absurd k
go_refused t name (fault.Stale h) x k r = absurd k
go_refused t name fault.NoMemory x k r = absurd k

go_free : (t u : Tree) (name : List ℕ) → IsGone name t u → barred (state_of t []) (In name) ≡ None
go_free t u name k = rw k.found refl

pub gone_answered : {T E : Type 0} (t u : Tree) (ss : List KeptSession) (name : List ℕ) (called : Result T TreeFault)
    (reply : Result Reply E) → length ss ≡ 0 → OnOk called (IsGone name t u) → IfErr called (IsGoFault name t)
    → OnErr called (u ≡ t) → IfOk reply (Says SaysDone called)
    → IfOk reply (λ r. IsAnswered (state_of t ss) (In name) (said_of u.current.project r) (state_of u ss))
gone_answered t u (s ∷ ss) name called reply none ok err kept said = absurd (omega (arith, none))
gone_answered t u [] name called (Err e) none ok err kept said = tt
gone_answered t u [] name (Ok x) (Ok r) none ok err kept said =
    made (state_of t []) (state_of u []) (In name) (said_of u.current.project r) (go_free t u name ok)
    (said u.current.project, record { tree = ok; sessions = refl })
gone_answered t u [] name (Err e) (Ok r) none ok err kept said =
    told (state_of t []) (state_of u []) (In name) u.current.project (tree_refusal e) r (λ x k. go_refused t name e x err k) said
    (ap (λ (y : Tree). state_of y []) kept)

-- ---- `reconcile`
merge_refused : (t u : Tree) (name : List ℕ) (e : TreeFault) (x : Refusal) → IsReconcileFault name t u e → tree_refusal e ≡ Some x
    → (barred (state_of t []) (Reconcile name) ≡ Some x) × (u ≡ t)
merge_refused t u name fault.NoVersion x k r = (rw k.0 r, k.1)
merge_refused t u name fault.Taken x k r = absurd k
merge_refused t u name fault.Full x k r = absurd k
merge_refused t u name (fault.Stale h) x k r = absurd k
merge_refused t u name fault.NoMemory x k r = cc

has_one : (o : Option AVersion) (v : AVersion) (F : List Feature) → o ≡ Some v → v.base ≡ Some F → has_base o ≡ true
has_one o v F e b = rw (e, b) refl

named_has : (t u : Tree) (name : List ℕ) (n : ℕ) (hs : List ℕ) → IsReconciled name n hs t u → has_base (version_of t name) ≡ true
named_has t u name n hs k =
    let v : version_of t name ≡ Some k.at.was = rw k.found k.at.there in
    has_one (version_of t name) k.at.was k.at.changed.had v k.at.changed.base

pub merged_answered : {E : Type 0} (t u : Tree) (ss : List KeptSession) (name : List ℕ) (called : Result Merged TreeFault)
    (reply : Result Reply E) → length ss ≡ 0 → IfOk called (λ m. IsReconciled name m.taken m.conflicts t u)
    → IfErr called (IsReconcileFault name t u)
    → IfOk reply (Says (λ m r. (p : Project) → said_of p r ≡ replies.Merged m.conflicts m.taken) called)
    → IfOk reply (λ r. IsAnswered (state_of t ss) (Reconcile name) (said_of u.current.project r) (state_of u ss))
merged_answered t u (s ∷ ss) name called reply none ok err said = absurd (omega (arith, none))
merged_answered t u [] name called (Err e) none ok err said = tt
merged_answered t u [] name (Ok m) (Ok r) none ok err said =
    made (state_of t []) (state_of u []) (Reconcile name) (said_of u.current.project r)
    (rw (named_has t u name m.taken m.conflicts ok) refl)
    (m.taken, m.conflicts, said u.current.project, record { tree = ok; sessions = refl })
merged_answered t u [] name (Err e) (Ok r) none ok err said = by (tree_refusal e) refl said
  where
    by : (o : Option Refusal) → tree_refusal e ≡ o → SaysRefusal o r
        → IsAnswered (state_of t []) (Reconcile name) (said_of u.current.project r) (state_of u [])
    by None k q = absurd q
    by (Some x) k q =
        let w = merge_refused t u name e x err k in
        refused (state_of t []) (state_of u []) (Reconcile name) (said_of u.current.project r) x w.0 (q u.current.project)
        (ap (λ (y : Tree). state_of y []) w.1)

-- ---- `post`
post_free : (t : Tree) (name : List ℕ) (v : AVersion) (F : List Feature) → version_of t name ≡ Some v → v.base ≡ Some F
    → barred (state_of t []) (Post name) ≡ None
post_free t name v F e b = rw (has_one (version_of t name) v F e b) refl

post_refused : (t u : Tree) (name : List ℕ) (e : TreeFault) (r : Reply) → IsPostFault name t u e → SaysRefusal (tree_refusal e) r
    → IsAnswered (state_of t []) (Post name) (said_of u.current.project r) (state_of u [])
post_refused t u name fault.NoVersion r k said = refused (state_of t []) (state_of u []) (Post name) (said_of u.current.project r) NoVersion
    (rw k.0 refl) (said u.current.project) (ap (λ (y : Tree). state_of y []) k.1)
post_refused t u name (fault.Stale h) r k said =
    made (state_of t []) (state_of u []) (Post name) (said_of u.current.project r) (post_free t name k.0.version k.0.had k.0.there k.0.base)
    (inl (h, k.0, said u.current.project, ap (λ (y : Tree). state_of y []) k.1))
post_refused t u name fault.Taken r k said = absurd k
post_refused t u name fault.Full r k said = absurd k
post_refused t u name fault.NoMemory r k said = absurd said

pub posted_answered : {E : Type 0} (t u : Tree) (ss : List KeptSession) (name : List ℕ) (called : Result ℕ TreeFault)
    (reply : Result Reply E) → length ss ≡ 0 → IfOk called (λ n. IsPosted name n t u) → IfErr called (IsPostFault name t u)
    → IfOk reply (Says (λ n r. (p : Project) → said_of p r ≡ Posted n) called)
    → IfOk reply (λ r. IsAnswered (state_of t ss) (Post name) (said_of u.current.project r) (state_of u ss))
posted_answered t u (s ∷ ss) name called reply none ok err said = absurd (omega (arith, none))
posted_answered t u [] name called (Err e) none ok err said = tt
posted_answered t u [] name (Ok n) (Ok r) none ok err said =
    made (state_of t []) (state_of u []) (Post name) (said_of u.current.project r)
    (post_free t name ok.version ok.had ok.there ok.base_was)
    (inr (n, said u.current.project, record { tree = ok; sessions = refl }))
posted_answered t u [] name (Err e) (Ok r) none ok err said = post_refused t u name e r err said

-- ---- what the state keeps: no session has a step
pub none_open : (u : Tree) (ss : List KeptSession) → length ss ≡ 0 → IsWorld u.current.project ss
none_open u [] e = begun u.current.project [] refl
none_open u (s ∷ ss) e = absurd (omega (arith, e))
