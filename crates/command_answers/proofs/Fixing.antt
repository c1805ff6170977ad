-- What a plan leaves, or why there is none, is what the line of a fix is answered.
use Rattle.std.proofs.Common.{suc, ◌≡◌, ◌≢◌, ◌≤◌, ◌<◌, ◌+◌, ℕ, Bool, true, false, List, [], ◌∷◌, length, map, Option, Some, None, refl, sym, ◌∙◌, ap, subst, arith, inl, inr}
use Rattle.std.proofs.lemmas.Bool.Decides.{nat_tests}
use Rattle.std.specs.Prelude.{Result, Ok, Err, IfOk, IfErr, OnOk, is_some, is_none, not, ◌&&◌, ◌||◌, nat_lt, ◌==◌, if◌then◌else◌}
use Rattle.std.specs.List.{list_any}
use Rattle.plane_terms.proofs.Truths.{both_parts}
use Rattle.plane_terms.specs.Lists.{Every}
use Rattle.plane_terms.specs.Point.{Place, same_place}
use Rattle.plane_terms.specs.Shape.{point_shape}
use Rattle.plane_terms.specs.ShapeFaults.{IsFlawless}
use Rattle.plane_terms.specs.declared.kind.Kind.{Kind}
use Rattle.plane_terms.specs.declared.kind.Kind.TheVariants as kinds
use Rattle.plane_terms.specs.declared.shape_fault.ShapeFault.{ShapeFault}
use Rattle.rule_words.specs.Table.{origin_of, dest_of}
use Rattle.rule_words.specs.declared.rule_kind.RuleKind.{RuleKind}
use Rattle.rule_words.specs.declared.rule_kind.RuleKind.TheVariants as rule
use Rattle.topology_terms.specs.Broken.{Row}
use Rattle.topology_terms.specs.Causes.{when, first_of, delete_cause, drop_cause, is_kind, is_fit, fits_dest, are_apart}
use Rattle.topology_terms.specs.declared.cause.Cause.TheVariants as cause
use Rattle.topology_terms.specs.Feature.{Feature, Side, feature_at, is_on_side}
use Rattle.topology_terms.specs.Lookups.{kind_of_class}
use Rattle.topology_terms.specs.Project.{Project, IsOrdered, rule_at}
use Rattle.topology_terms.specs.Session.{holder}
use Rattle.topo_core.specs.Topologies.{IsTopology}
use Rattle.sound_laws.proofs.FeatureLists.{handle_of}
use Rattle.sound_laws.proofs.RuleLists.{rule_each}
use Rattle.session_terms.specs.Kept.{KeptSession, seen}
use Rattle.session_terms.specs.Steps.{IsAlone}
use Rattle.fix_terms.specs.Plans.{Edit, AreDone, IsAfter, IsPossible, shapes_of}
use Rattle.fix_terms.specs.declared.edit.Edit.TheVariants.{Put, Add}
use Rattle.fix_terms.specs.Explode.{exploded, exploded_by, may_explode, HasHandles, HasExploded, line_of}
use Rattle.fix_terms.specs.Snap.{snapped, may_snap, HasSnapped}
use Rattle.fix_terms.specs.Create.{created, creates, may_create, subtype_of, HasHandle, HasCreated}
use Rattle.fix_terms.specs.Move.{moves, touching, has_vertex, may_move, HasMoved}
use Rattle.fix_tools.proofs.Done.{done_after}
use Rattle.fix_tools.proofs.Possible.{add_possible}
use Rattle.fix_tools.specs.Explode.{IsExploded, IsExplodeFault}
use Rattle.fix_tools.specs.Snap.{IsSnapped, IsSnapFault}
use Rattle.fix_tools.specs.Create.{IsCreated, IsCreateFault}
use Rattle.fix_tools.specs.Move.{IsMovePlan, IsMoveFault}
use Rattle.fix_tools.specs.declared.fault.FixFault.{FixFault}
use Rattle.fix_tools.specs.declared.fault.FixFault.TheVariants.{NoRule, NoFeature, Nothing, Bad, Spent, NoMemory}
use Rattle.line_terms.specs.Commands.{Command, Delete, Explode, Snap, Create, Move}
use Rattle.script_terms.specs.Answer.{Answers, AreNoted, AreAllDone}
use Rattle.script_terms.specs.Refusal.{Refusal, NoSession, Change, NothingToFix}
use Rattle.script_terms.specs.Refusing.{refusal_of, changes, held_by, not_exploded, not_snapped, not_created, first_held}
use Rattle.script_terms.specs.Reply.{Refused, Parts, Moved}
use Rattle.script_terms.specs.State.{Desk, is_open}
use Rattle.script_terms.proofs.Fixing.{AreFree, exploded_free}
use Rattle.script_terms.proofs.Runs.{may_edit, move_free, first_none}
use Rattle.reply_text.specs.Replies.{said_of}
use Rattle.reply_text.specs.declared.reply.Reply as code
use Rattle.reply_text.specs.declared.refusal.Refusal as reply_refusal
use Rattle.command_answers.specs.Refusals.{SaysRefusal}
use Rattle.command_answers.specs.Worlds.{seen_desk, IsWorld}
use Rattle.command_answers.specs.Planned.{AreReady, IsToldSo, fix_refusal, first_other, IsMoveRefusal}
use Rattle.command_answers.specs.declared.fixes.Made.TheVariants as what
use Rattle.command_answers.proofs.Answering.{done, refused, edit_stopped}
use Rattle.command_answers.proofs.KeptLists.{holder_seen}

-- ---- plans
-- edits that are noted are done
noted_done : (editor : List ℕ) (es : List Edit) (d g : Desk) → AreNoted editor es d g → AreDone es d.project g.project
noted_done editor [] d g n = ap (λ (x : Desk). x.project) n
noted_done editor (Put h s ∷ es) d g n = (n.0.project, n.2.1.project, noted_done editor es n.0 g n.3)
noted_done editor (Add c t s ∷ es) d g n = (n.0.project, n.2.1.project, noted_done editor es n.0 g n.3)

all_done : (editor : List ℕ) (es fs : List Edit) (P : List Feature → Type 0) (d g : Desk) → es ≡ fs → IsOrdered g.project
    → ((G : List Feature) → IsAfter es d.project.features d.project.next G → P G) → AreNoted editor es d g → AreAllDone editor fs P d g
all_done editor es fs P d g same o fixed n = record {
  noted = subst (λ xs. AreNoted editor xs d g) same n;
  kept = fixed g.project.features (done_after es d.project g.project o (noted_done editor es d g n));
}

same_desk : (p q : Project) (ss ts : List KeptSession) → q ≡ p → ts ≡ ss → seen_desk q ts ≡ seen_desk p ss
same_desk p q ss ts e f = ap (λ (m : Project). seen_desk m ts) e ∙ ap (seen_desk p) f

-- a line that is refused for the fault of a plan
told : (d g : Desk) (c : Command) (p : Project) (o : Option Refusal) (r : code.Reply) → ((x : Refusal) → o ≡ Some x → refusal_of d c ≡ Some x)
    → SaysRefusal o r → g ≡ d → Answers d c (said_of p r) g
told d g c p None r why says same = absurd says
told d g c p (Some x) r why says same = refused d g c (said_of p r) x (why x refl) (says p) same

-- ---- tests and what they refuse
no_longer : (b : Bool) → b ≡ true → not b ≡ false
no_longer true e = refl
no_longer false e = cc

few : (n m : ℕ) → n + m ≤ 4294967296 → nat_lt 4294967296 (n + m) ≡ false
few n m h = grind (arith, nat_tests, h)

many : (n m : ℕ) → ¬ (n + m ≤ 4294967296) → nat_lt 4294967296 (n + m) ≡ true
many n m h = by (nat_lt 4294967296 (n + m)) refl
  where
    by : (b : Bool) → nat_lt 4294967296 (n + m) ≡ b → nat_lt 4294967296 (n + m) ≡ true
    by true e = e
    by false e = absurd (h (grind (arith, nat_tests, e)))

-- ---- explode
exploded_length : (f : Feature) (parts : List (List (List Place))) → length (exploded_by f parts) ≡ length parts
exploded_length f [] = refl
exploded_length f (x ∷ xs) = ap suc (mapped xs)
  where
    mapped : (xs : List (List (List Place)))
        → length (map {A = List (List Place)} (λ part. Add f.class f.subtype (line_of part)) xs) ≡ length xs
    mapped [] = refl
    mapped (y ∷ ys) = ap suc (mapped ys)

explode_refusal : (d : Desk) (editor : List ℕ) (h : ℕ) → refusal_of d (Delete editor h) ≡ None
    → refusal_of d (Explode editor h) ≡ first_of (not_exploded d.project.next (feature_at d.project.features h) ∷ [])
explode_refusal d editor h free =
    passed (when (not (is_open d editor)) NoSession) (changes (delete_cause d.project.features h)) (held_by (holder d.sessions h) editor)
    (not_exploded d.project.next (feature_at d.project.features h)) free
  where
    passed : (a b c e : Option Refusal) → first_of (a ∷ b ∷ c ∷ []) ≡ None → first_of (a ∷ b ∷ c ∷ e ∷ []) ≡ first_of (e ∷ [])
    passed (Some x) b c e i = cc
    passed None (Some x) c e i = cc
    passed None None (Some x) e i = cc
    passed None None None e i = refl

pub explode_stopped : (d : Desk) (editor : List ℕ) (h : ℕ) (r : Refusal) → refusal_of d (Delete editor h) ≡ Some r
    → Answers d (Explode editor h) (Refused r) d
explode_stopped d editor h r e = refused d d (Explode editor h) (Refused r) r
    (edit_stopped (when (not (is_open d editor)) NoSession) (changes (delete_cause d.project.features h)) (held_by (holder d.sessions h) editor)
    (not_exploded d.project.next (feature_at d.project.features h)) r e) refl refl

exploding : (n : ℕ) (o : Option Feature) (f : Feature) → o ≡ Some f → may_explode f ≡ true → HasHandles n f
    → first_of (not_exploded n o ∷ []) ≡ None
exploding n o f live may enough = rw (live, no_longer (may_explode f) may, few n (length f.shape.parts) enough) refl

live_there : (d : Desk) (editor : List ℕ) (h : ℕ) → refusal_of d (Delete editor h) ≡ None → feature_at d.project.features h ≡ None → ⊥
live_there d editor h free none =
    let a = first_none (when (not (is_open d editor)) NoSession)
    (changes (delete_cause d.project.features h) ∷ held_by (holder d.sessions h) editor ∷ []) free in
    let b = first_none (changes (delete_cause d.project.features h)) (held_by (holder d.sessions h) editor ∷ []) a.1 in
    let c : changes (delete_cause d.project.features h) ≡ Some (Change cause.NoFeature) = rw none refl in
    let e = sym c ∙ b.0 in cc

explode_why : (d : Desk) (editor : List ℕ) (h : ℕ) (e : FixFault) (x : Refusal) → refusal_of d (Delete editor h) ≡ None
    → IsExplodeFault d.project h e → fix_refusal e ≡ Some x → refusal_of d (Explode editor h) ≡ Some x
explode_why d editor h NoRule x free k s = absurd k
explode_why d editor h NoFeature x free k s = absurd (live_there d editor h free k)
explode_why d editor h Nothing x free (f, live, may) s = explode_refusal d editor h free ∙ (rw (live, may) s)
explode_why d editor h (Bad b) x free k s = absurd k
explode_why d editor h Spent x free (f, live, may, spent) s =
    explode_refusal d editor h free
    ∙ (rw (live, no_longer (may_explode f) may, many d.project.next (length f.shape.parts) spent) s)
explode_why d editor h NoMemory x free k s = cc

pub explode_ready : (editor : List ℕ) (h : ℕ) (p : Project) (ss : List KeptSession) (x : Result (List Edit) FixFault) → IsWorld p ss
    → IsOrdered p → refusal_of (seen_desk p ss) (Delete editor h) ≡ None → IfOk x (IsExploded p h) → IfOk x (λ es. IsPossible es p)
    → AreReady editor x p ss
explode_ready editor h p ss (Err e) w ord free k possible = tt
explode_ready editor h p ss (Ok es) w ord free k possible =
    let m = may_edit (seen_desk p ss) editor h [] w.keeping ord free in
    let own : k.f.handle ≡ h = handle_of p.features h k.f k.live in
    let sessions = seen (feature_at p.features) ss in
    record {
      world = w;
      free = subst (λ (xs : List Edit). AreFree editor xs sessions p.next) (sym k.plan)
          (exploded_free editor k.f k.f.shape.parts sessions p.next (subst (λ i. IsAlone sessions editor i) (sym own) m.0)
          (subst (λ i. i < p.next) (sym own) m.1));
      possible = possible;
    }

pub explode_answered : {E : Type 0} (editor : List ℕ) (h : ℕ) (p q : Project) (ss ts : List KeptSession) (x : Result (List Edit) FixFault)
    (reply : Result code.Reply E) → refusal_of (seen_desk p ss) (Delete editor h) ≡ None → IfOk x (IsExploded p h)
    → IfErr x (IsExplodeFault p h)
    → IfOk x (λ es. (G : List Feature) → IsAfter es p.features p.next G → HasExploded p.features p.next h es G) → OnOk reply (IsOrdered q)
    → IfOk reply (IsToldSo editor what.Parts x p q ss ts)
    → IfOk reply (λ r. Answers (seen_desk p ss) (Explode editor h) (said_of q r) (seen_desk q ts))
explode_answered editor h p q ss ts x (Err e) free k why fixed ord t = tt
explode_answered editor h p q ss ts (Err e) (Ok r) free k why fixed ord t =
    told (seen_desk p ss) (seen_desk q ts) (Explode editor h) q (fix_refusal e) r
    (λ y s. explode_why (seen_desk p ss) editor h e y free why s) t.0 (same_desk p q ss ts t.1 t.2)
explode_answered editor h p q ss ts (Ok es) (Ok r) free k why fixed ord t =
    let d = seen_desk p ss in
    let g = seen_desk q ts in
    let count : length es ≡ length k.f.shape.parts = ap (λ (xs : List Edit). length xs) k.plan ∙ exploded_length k.f k.f.shape.parts in
    let keeps = subst (λ (xs : List Edit). (G : List Feature) → IsAfter es p.features p.next G → HasExploded p.features p.next h xs G)
    k.plan fixed in
    done d g (Explode editor h) (said_of q r)
    (explode_refusal d editor h free ∙ exploding p.next (feature_at p.features h) k.f k.live k.may k.enough)
    (k.f, k.live, t.0 q ∙ ap Parts count, all_done editor es (exploded k.f) (HasExploded p.features p.next h (exploded k.f)) d g k.plan ord keeps t.1)

-- ---- snap
snap_refusal : (d : Desk) (editor : List ℕ) (r h i : ℕ) (to : Place) → refusal_of d (Delete editor h) ≡ None
    → drop_cause d.project.rules r ≡ None
    → refusal_of d (Snap editor r h i to)
    ≡ first_of (not_snapped d.project.features (rule_at d.project.rules r) (feature_at d.project.features h) i to ∷ [])
snap_refusal d editor r h i to free there =
    passed (when (not (is_open d editor)) NoSession) (changes (drop_cause d.project.rules r)) (changes (delete_cause d.project.features h))
    (held_by (holder d.sessions h) editor)
    (not_snapped d.project.features (rule_at d.project.rules r) (feature_at d.project.features h) i to) free (ap changes there)
  where
    passed : (a z b c e : Option Refusal) → first_of (a ∷ b ∷ c ∷ []) ≡ None → z ≡ None
        → first_of (a ∷ z ∷ b ∷ c ∷ e ∷ []) ≡ first_of (e ∷ [])
    passed (Some x) z b c e i k = cc
    passed None (Some y) b c e i k = cc
    passed None None (Some x) c e i k = cc
    passed None None None (Some x) e i k = cc
    passed None None None None e i k = refl

pub snap_closed : (d : Desk) (editor : List ℕ) (r h i : ℕ) (to : Place) → is_open d editor ≡ false
    → Answers d (Snap editor r h i to) (Refused NoSession) d
snap_closed d editor r h i to e = refused d d (Snap editor r h i to) (Refused NoSession) NoSession (rw e refl) refl refl

pub snap_no_rule : (d : Desk) (editor : List ℕ) (r h i : ℕ) (to : Place) → is_open d editor ≡ true → is_some (rule_at d.project.rules r) ≡ false
    → Answers d (Snap editor r h i to) (Refused (Change cause.NoRule)) d
snap_no_rule d editor r h i to e n =
    refused d d (Snap editor r h i to) (Refused (Change cause.NoRule)) (Change cause.NoRule) (rw (e, none (rule_at d.project.rules r) n) refl) refl refl
  where
    none : (o : Option Row) → is_some o ≡ false → is_none o ≡ true
    none None i = refl
    none (Some x) i = cc

pub in_force : (p : Project) (r : ℕ) → is_some (rule_at p.rules r) ≡ true → drop_cause p.rules r ≡ None
in_force p r e = by (rule_at p.rules r) e
  where
    by : (o : Option Row) → is_some o ≡ true → when (is_none o) cause.NoRule ≡ None
    by None i = cc
    by (Some x) i = refl

pub snap_stopped : (d : Desk) (editor : List ℕ) (r h i : ℕ) (to : Place) (x : Refusal) → is_open d editor ≡ true
    → is_some (rule_at d.project.rules r) ≡ true → refusal_of d (Delete editor h) ≡ Some x → Answers d (Snap editor r h i to) (Refused x) d
snap_stopped d editor r h i to x e there stops =
    refused d d (Snap editor r h i to) (Refused x) x
    (passed (when (not (is_open d editor)) NoSession) (changes (drop_cause d.project.rules r)) (changes (delete_cause d.project.features h))
    (held_by (holder d.sessions h) editor)
    (not_snapped d.project.features (rule_at d.project.rules r) (feature_at d.project.features h) i to) x
    stops (ap changes (in_force d.project r there))) refl refl
  where
    passed : (a z b c e : Option Refusal) (x : Refusal) → first_of (a ∷ b ∷ c ∷ []) ≡ Some x → z ≡ None
        → first_of (a ∷ z ∷ b ∷ c ∷ e ∷ []) ≡ Some x
    passed (Some y) z b c e x i k = i
    passed None (Some y) b c e x i k = cc
    passed None None (Some y) c e x i k = i
    passed None None None (Some y) e x i k = i
    passed None None None None e x i k = cc

rule_there : (p : Project) (r : ℕ) → drop_cause p.rules r ≡ None → rule_at p.rules r ≡ None → ⊥
rule_there p r there none = let c : drop_cause p.rules r ≡ Some cause.NoRule = rw none refl in let e = sym c ∙ there in cc

snap_why : (d : Desk) (editor : List ℕ) (r h i : ℕ) (to : Place) (e : FixFault) (x : Refusal) → refusal_of d (Delete editor h) ≡ None
    → drop_cause d.project.rules r ≡ None → (((b : ShapeFault) → e ≢ Bad b)) → IsSnapFault d.project r h i to e → fix_refusal e ≡ Some x
    → refusal_of d (Snap editor r h i to) ≡ Some x
snap_why d editor r h i to NoRule x free there other k s = absurd (rule_there d.project r there k)
snap_why d editor r h i to NoFeature x free there other (row, rr, none) s = absurd (live_there d editor h free none)
snap_why d editor r h i to Nothing x free there other (row, f, of, may) s =
    snap_refusal d editor r h i to free there ∙ (rw (of.rule, of.live, may) s)
snap_why d editor r h i to (Bad b) x free there other k s = absurd (other b refl)
snap_why d editor r h i to Spent x free there other k s = absurd k
snap_why d editor r h i to NoMemory x free there other k s = cc

snapping : (F : List Feature) (o : Option Row) (u : Option Feature) (row : Row) (f : Feature) (i : ℕ) (to : Place) → o ≡ Some row → u ≡ Some f
    → may_snap row F f i to ≡ true → first_of (not_snapped F o u i to ∷ []) ≡ None
snapping F o u row f i to a b may = rw (a, b, no_longer (may_snap row F f i to) may) refl

pub snap_ready : (editor : List ℕ) (r h i : ℕ) (to : Place) (p : Project) (ss : List KeptSession) (x : Result (List Edit) FixFault)
    → IsWorld p ss → IsOrdered p → refusal_of (seen_desk p ss) (Delete editor h) ≡ None → IfOk x (IsSnapped p r h i to)
    → IfOk x (λ es. IsPossible es p) → AreReady editor x p ss
snap_ready editor r h i to p ss (Err e) w ord free k possible = tt
snap_ready editor r h i to p ss (Ok es) w ord free k possible =
    let m = may_edit (seen_desk p ss) editor h [] w.keeping ord free in
    let own : k.f.handle ≡ h = handle_of p.features h k.f k.subject.live in
    let sessions = seen (feature_at p.features) ss in
    record {
      world = w;
      free = subst (λ (xs : List Edit). AreFree editor xs sessions p.next) (sym k.plan)
          (subst (λ j. IsAlone sessions editor j) (sym own) m.0, subst (λ j. j < p.next) (sym own) m.1, tt);
      possible = possible;
    }

pub snap_answered : {E : Type 0} (editor : List ℕ) (r h i : ℕ) (to : Place) (p q : Project) (ss ts : List KeptSession)
    (x : Result (List Edit) FixFault) (reply : Result code.Reply E) → refusal_of (seen_desk p ss) (Delete editor h) ≡ None
    → drop_cause p.rules r ≡ None → IfOk x (IsSnapped p r h i to) → IfErr x (IsSnapFault p r h i to)
    → IfOk x (λ es. (row : Row) (f : Feature) → rule_at p.rules r ≡ Some row → feature_at p.features h ≡ Some f
    → (G : List Feature) → IsAfter es p.features p.next G → HasSnapped row f i to p.features G) → OnOk reply (IsOrdered q)
    → IfOk reply (IsToldSo editor what.Done x p q ss ts)
    → IfOk reply (λ y. Answers (seen_desk p ss) (Snap editor r h i to) (said_of q y) (seen_desk q ts))
snap_answered editor r h i to p q ss ts x (Err e) free there k why fixed ord t = tt
snap_answered editor r h i to p q ss ts (Err (Bad b)) (Ok y) free there k (row, f, of, may, bad) fixed ord t =
    let d = seen_desk p ss in
    done d (seen_desk q ts) (Snap editor r h i to) (said_of q y)
    (snap_refusal d editor r h i to free there ∙ snapping p.features (rule_at p.rules r) (feature_at p.features h) row f i to of.rule of.live may)
    (row, f, of.rule, of.live, inr (b, bad, t.0 q, same_desk p q ss ts t.1 t.2))
snap_answered editor r h i to p q ss ts (Err e) (Ok y) free there k why fixed ord t =
    told (seen_desk p ss) (seen_desk q ts) (Snap editor r h i to) q (fix_refusal e) y
    (λ z s. snap_why (seen_desk p ss) editor r h i to e z free there (λ b n. cc) why s) t.0 (same_desk p q ss ts t.1 t.2)
snap_answered editor r h i to p q ss ts (Ok es) (Ok y) free there k why fixed ord t =
    let d = seen_desk p ss in
    let g = seen_desk q ts in
    done d g (Snap editor r h i to) (said_of q y)
    (snap_refusal d editor r h i to free there
    ∙ snapping p.features (rule_at p.rules r) (feature_at p.features h) k.row k.f i to k.subject.rule k.subject.live k.may) (
      k.row,
      k.f,
      k.subject.rule,
      k.subject.live,
      inl (
        (k.flawless, tt),
        t.0 q,
        all_done editor es (snapped i to k.f) (HasSnapped k.row k.f i to p.features) d g k.plan ord (fixed k.row k.f k.subject.rule k.subject.live) t.1,
      ),
    )

-- ---- create
create_refusal : (d : Desk) (editor : List ℕ) (r h : ℕ) (at : Place) → is_open d editor ≡ true
    → refusal_of d (Create editor r h at) ≡ first_of (changes (drop_cause d.project.rules r) ∷ changes (delete_cause d.project.features h)
    ∷ not_created d.project (rule_at d.project.rules r) (feature_at d.project.features h) at ∷ [])
create_refusal d editor r h at e = rw e refl

pub create_closed : (d : Desk) (editor : List ℕ) (r h : ℕ) (at : Place) → is_open d editor ≡ false
    → Answers d (Create editor r h at) (Refused NoSession) d
create_closed d editor r h at e = refused d d (Create editor r h at) (Refused NoSession) NoSession (rw e refl) refl refl

spent_or_not : (n : ℕ) → ¬ (HasHandle n) → n ≤ 4294967295 → (n == 4294967295) ≡ true
spent_or_not n h l = by (n == 4294967295) refl
  where
    by : (b : Bool) → (n == 4294967295) ≡ b → (n == 4294967295) ≡ true
    by true e = e
    by false e = absurd (h (grind (arith, nat_tests, e, l)))

not_spent : (n : ℕ) → HasHandle n → (n == 4294967295) ≡ false
not_spent n h = grind (arith, nat_tests, h)

create_why : (d : Desk) (editor : List ℕ) (r h : ℕ) (at : Place) (e : FixFault) (x : Refusal) → is_open d editor ≡ true
    → d.project.next ≤ 4294967295 → IsCreateFault d.project r h at e → fix_refusal e ≡ Some x → refusal_of d (Create editor r h at) ≡ Some x
create_why d editor r h at NoRule x is_there l k s = create_refusal d editor r h at is_there ∙ (rw k s)
create_why d editor r h at NoFeature x is_there l (row, rr, none) s = create_refusal d editor r h at is_there ∙ (rw (rr, none) s)
create_why d editor r h at Nothing x is_there l (row, f, of, may) s =
    create_refusal d editor r h at is_there ∙ (rw (of.rule, of.live, may) s)
create_why d editor r h at (Bad b) x is_there l k s = absurd k
create_why d editor r h at Spent x is_there l (row, f, of, may, spent) s =
    create_refusal d editor r h at is_there
    ∙ (rw (of.rule, of.live, no_longer (may_create row d.project.features f at) may, spent_or_not d.project.next spent l) s)
create_why d editor r h at NoMemory x is_there l k s = cc

kind_is : (o : Option Kind) (k : Kind) → is_kind o k ≡ true → o ≡ Some k
kind_is None k e = cc
kind_is (Some kinds.Point) kinds.Point e = refl
kind_is (Some kinds.Line) kinds.Line e = refl
kind_is (Some kinds.Polygon) kinds.Polygon e = refl
kind_is (Some j) k e = cc

asks_points : (k : RuleKind) (B : Side) (F : List Feature) (f : Feature) (at : Place) → creates k B F f at ≡ true → dest_of k ≡ Some kinds.Point
asks_points rule.PolygonContainsPoint B F f at e = refl
asks_points rule.LineEndpointMustBeCoveredBy B F f at e = refl
asks_points other B F f at e = cc

point_class : (p : Project) (row : Row) → is_fit p.classes row ≡ true → dest_of row.kind ≡ Some kinds.Point
    → kind_of_class p.classes row.dest.class ≡ Some kinds.Point
point_class p row fit dest = by (dest_of row.kind) dest (both_parts (is_kind (kind_of_class p.classes row.origin.class) (origin_of row.kind)) _ fit).1
  where
    by : (o : Option Kind) → o ≡ Some kinds.Point → fits_dest p.classes row o ≡ true
        → kind_of_class p.classes row.dest.class ≡ Some kinds.Point
    by None e h = cc
    by (Some k) e h =
        let same : k ≡ kinds.Point = cc in
        let a = both_parts (is_kind (kind_of_class p.classes row.dest.class) k) (are_apart row.dest row.origin) h in
        kind_is (kind_of_class p.classes row.dest.class) k a.0 ∙ ap (λ (j : Kind). Some j) same

pub create_ready : (editor : List ℕ) (r h : ℕ) (at : Place) (p : Project) (ss : List KeptSession) (x : Result (List Edit) FixFault)
    → IsWorld p ss → IsTopology p → IfOk x (IsCreated p r h at) → AreReady editor x p ss
create_ready editor r h at p ss (Err e) w top k = tt
create_ready editor r h at p ss (Ok es) w top k =
    let row = k.row in
    let fit = rule_each (λ (q : Row). is_fit p.classes q ≡ true) p.rules r row top.fit k.subject.rule in
    let asked = both_parts (is_on_side row.origin k.f) (creates row.kind row.dest p.features k.f at) k.may in
    let kind = point_class p row fit (asks_points row.kind row.dest p.features k.f at asked.1) in
    record {
      world = w;
      free = subst (λ (xs : List Edit). AreFree editor xs (seen (feature_at p.features) ss) p.next) (sym k.plan) tt;
      possible = subst (λ (xs : List Edit). IsPossible xs p) (sym k.plan)
          (add_possible p row.dest.class (subtype_of row.dest) (point_shape at) kind k.enough);
    }

creating : (p : Project) (o : Option Row) (u : Option Feature) (row : Row) (f : Feature) (at : Place) → o ≡ Some row → u ≡ Some f
    → may_create row p.features f at ≡ true → HasHandle p.next
    → first_of (changes (when (is_none o) cause.NoRule) ∷ changes (when (is_none u) cause.NoFeature) ∷ not_created p o u at ∷ []) ≡ None
creating p o u row f at a b may enough = rw (a, b, no_longer (may_create row p.features f at) may, not_spent p.next enough) refl

pub create_answered : {E : Type 0} (editor : List ℕ) (r h : ℕ) (at : Place) (p q : Project) (ss ts : List KeptSession)
    (x : Result (List Edit) FixFault) (reply : Result code.Reply E) → is_open (seen_desk p ss) editor ≡ true → p.next ≤ 4294967295
    → IfOk x (IsCreated p r h at) → IfErr x (IsCreateFault p r h at)
    → IfOk x (λ es. (row : Row) (f : Feature) → rule_at p.rules r ≡ Some row → feature_at p.features h ≡ Some f
    → (G : List Feature) → IsAfter es p.features p.next G → HasCreated row f at p.features p.next G) → OnOk reply (IsOrdered q)
    → IfOk reply (IsToldSo editor what.Handle x p q ss ts)
    → IfOk reply (λ y. Answers (seen_desk p ss) (Create editor r h at) (said_of q y) (seen_desk q ts))
create_answered editor r h at p q ss ts x (Err e) is_there l k why fixed ord t = tt
create_answered editor r h at p q ss ts (Err e) (Ok y) is_there l k why fixed ord t =
    told (seen_desk p ss) (seen_desk q ts) (Create editor r h at) q (fix_refusal e) y
    (λ z s. create_why (seen_desk p ss) editor r h at e z is_there l why s) t.0 (same_desk p q ss ts t.1 t.2)
create_answered editor r h at p q ss ts (Ok es) (Ok y) is_there l k why fixed ord t =
    let d = seen_desk p ss in
    let g = seen_desk q ts in
    done d g (Create editor r h at) (said_of q y)
    (create_refusal d editor r h at is_there
    ∙ creating p (rule_at p.rules r) (feature_at p.features h) k.row k.f at k.subject.rule k.subject.live k.may k.enough) (
      k.row,
      k.f,
      k.subject.rule,
      k.subject.live,
      t.0 q,
      all_done editor es (created k.row at) (HasCreated k.row k.f at p.features p.next) d g k.plan ord
          (fixed k.row k.f k.subject.rule k.subject.live) t.1,
    )

-- ---- move
pub move_stopped : (d : Desk) (editor : List ℕ) (from to : Place) (x : Refusal) → refusal_of d (Move editor from to) ≡ Some x
    → Answers d (Move editor from to) (Refused x) d
move_stopped d editor from to x e = refused d d (Move editor from to) (Refused x) x e refl refl

may_there : (d : Desk) (editor : List ℕ) (from to : Place) → refusal_of d (Move editor from to) ≡ None
    → may_move from to d.project.features ≡ true
may_there d editor from to free =
    let held = first_held d.sessions (touching from d.project.features) editor in
    let a = first_none (when (not (is_open d editor)) NoSession)
    (when (not (may_move from to d.project.features)) NothingToFix ∷ held ∷ []) free in
    let b = first_none (when (not (may_move from to d.project.features)) NothingToFix) (held ∷ []) a.1 in
    by (may_move from to d.project.features) b.0
  where
    by : (b : Bool) → when (not b) NothingToFix ≡ None → b ≡ true
    by true e = refl
    by false e = cc

pub move_ready : (editor : List ℕ) (from to : Place) (p : Project) (ss : List KeptSession) (x : Result (List Edit) FixFault) → IsWorld p ss
    → IsOrdered p → refusal_of (seen_desk p ss) (Move editor from to) ≡ None → IfOk x (IsMovePlan from to p.features)
    → IfOk x (λ es. IsPossible es p) → AreReady editor x p ss
move_ready editor from to p ss (Err e) w ord free k possible = tt
move_ready editor from to p ss (Ok es) w ord free k possible = record {
  world = w;
  free = subst (λ (xs : List Edit). AreFree editor xs (seen (feature_at p.features) ss) p.next) (sym k.plan)
      (move_free from to editor (seen_desk p ss) w.keeping ord free);
  possible = possible;
}

pub move_answered : {E : Type 0} (editor : List ℕ) (from to : Place) (p q : Project) (ss ts : List KeptSession)
    (x : Result (List Edit) FixFault) (reply : Result code.Reply E) → refusal_of (seen_desk p ss) (Move editor from to) ≡ None
    → IfOk x (IsMovePlan from to p.features) → IfErr x (IsMoveFault from to p.features)
    → IfOk x (λ es. (G : List Feature) → IsAfter es p.features p.next G → HasMoved from to p.features G) → OnOk reply (IsOrdered q)
    → IfOk reply (IsToldSo editor what.Moved x p q ss ts)
    → IfOk reply (λ y. Answers (seen_desk p ss) (Move editor from to) (said_of q y) (seen_desk q ts))
move_answered editor from to p q ss ts x (Err e) free k why fixed ord t = tt
move_answered editor from to p q ss ts (Err NoRule) (Ok y) free k why fixed ord t = absurd why
move_answered editor from to p q ss ts (Err NoFeature) (Ok y) free k why fixed ord t = absurd why
move_answered editor from to p q ss ts (Err Nothing) (Ok y) free k why fixed ord t =
    let may = may_there (seen_desk p ss) editor from to free in let e : false ≡ true = sym why ∙ may in cc
move_answered editor from to p q ss ts (Err (Bad b)) (Ok y) free k why fixed ord t =
    done (seen_desk p ss) (seen_desk q ts) (Move editor from to) (said_of q y) free
    (inr (b, why.1, t.0 q, same_desk p q ss ts t.1 t.2))
move_answered editor from to p q ss ts (Err Spent) (Ok y) free k why fixed ord t = absurd why
move_answered editor from to p q ss ts (Err NoMemory) (Ok y) free k why fixed ord t = absurd t.0
move_answered editor from to p q ss ts (Ok es) (Ok y) free k why fixed ord t =
    let d = seen_desk p ss in
    let g = seen_desk q ts in
    let F = p.features in
    let count : length es ≡ length (moves from to F) = ap (λ (xs : List Edit). length xs) k.plan in
    done d g (Move editor from to) (said_of q y) free
    (inl (
      subst (λ (xs : List Edit). Every IsFlawless (shapes_of xs)) k.plan k.flawless,
      t.0 q ∙ ap Moved count,
      all_done editor es (moves from to F) (HasMoved from to F) d g k.plan ord fixed t.1,
    ))

-- ---- who holds what would be moved
touched_held : (at : ℕ → Option Feature) (ss : List KeptSession) (fs : List Feature) (editor : List ℕ)
    → first_other ss (map {A = Feature} (λ f. f.handle) fs) editor ≡ first_held (seen at ss) fs editor
touched_held at ss [] editor = refl
touched_held at ss (f ∷ fs) editor =
    rw (holder_seen at ss f.handle, touched_held at ss fs editor) refl

pub move_closed : (d : Desk) (editor : List ℕ) (from to : Place) → is_open d editor ≡ false → refusal_of d (Move editor from to) ≡ Some NoSession
move_closed d editor from to e = rw e refl

pub move_nothing : (d : Desk) (editor : List ℕ) (from to : Place) → is_open d editor ≡ true → may_move from to d.project.features ≡ false
    → refusal_of d (Move editor from to) ≡ Some NothingToFix
move_nothing d editor from to e n = rw (e, n) refl

pub move_asked : (p : Project) (ss : List KeptSession) (editor hs : List ℕ) (from to : Place) (o : Option Refusal)
    → is_open (seen_desk p ss) editor ≡ true → may_move from to p.features ≡ true
    → hs ≡ map {A = Feature} (λ f. f.handle) (touching from p.features) → first_other ss hs editor ≡ o
    → refusal_of (seen_desk p ss) (Move editor from to) ≡ o
move_asked p ss editor hs from to o is_there may is held =
    let at = feature_at p.features in
    let same : first_held (seen at ss) (touching from p.features) editor ≡ o =
    sym (touched_held at ss (touching from p.features) editor) ∙ (ap (λ xs. first_other ss xs editor) (sym is) ∙ held) in
    rw (is_there, no_longer (may_move from to p.features) may, same) (only o)
  where
    only : (o : Option Refusal) → first_of (o ∷ []) ≡ o
    only None = refl
    only (Some r) = refl

-- ---- what there is to move
none_touched : (from : Place) (fs : List Feature) → length (map {A = Feature} (λ f. f.handle) (touching from fs)) ≡ 0
    → list_any (λ (f : Feature). has_vertex from f.shape) fs ≡ false
none_touched from [] e = refl
none_touched from (f ∷ fs) e = by (has_vertex from f.shape) e (none_touched from fs)
  where
    by : (b : Bool) → length (map {A = Feature} (λ f. f.handle) (if b then f ∷ touching from fs else touching from fs)) ≡ 0
        → (length (map {A = Feature} (λ f. f.handle) (touching from fs)) ≡ 0 → list_any (λ (f : Feature). has_vertex from f.shape) fs ≡ false)
        → (b || list_any (λ (f : Feature). has_vertex from f.shape) fs) ≡ false
    by true e r = absurd (omega (arith, e))
    by false e r = r e

some_touched : (from : Place) (fs : List Feature) → length (map {A = Feature} (λ f. f.handle) (touching from fs)) ≢ 0
    → list_any (λ (f : Feature). has_vertex from f.shape) fs ≡ true
some_touched from [] n = absurd (n refl)
some_touched from (f ∷ fs) n = by (has_vertex from f.shape) n (some_touched from fs)
  where
    by : (b : Bool) → length (map {A = Feature} (λ f. f.handle) (if b then f ∷ touching from fs else touching from fs)) ≢ 0
        → (length (map {A = Feature} (λ f. f.handle) (touching from fs)) ≢ 0 → list_any (λ (f : Feature). has_vertex from f.shape) fs ≡ true)
        → (b || list_any (λ (f : Feature). has_vertex from f.shape) fs) ≡ true
    by true n r = refl
    by false n r = r n

pub move_onto : (from to : Place) (F : List Feature) → same_place to from ≡ true → may_move from to F ≡ false
move_onto from to F e = rw e refl

pub move_empty : (from to : Place) (F : List Feature) (hs : List ℕ) → hs ≡ map {A = Feature} (λ f. f.handle) (touching from F)
    → length hs ≡ 0 → may_move from to F ≡ false
move_empty from to F hs is e =
    let none = none_touched from F (sym (ap (λ (xs : List ℕ). length xs) is) ∙ e) in
    by (same_place to from) none
  where
    by : (b : Bool) → list_any (λ (f : Feature). has_vertex from f.shape) F ≡ false
        → (not b && list_any (λ (f : Feature). has_vertex from f.shape) F) ≡ false
    by true n = refl
    by false n = n

pub move_may : (from to : Place) (F : List Feature) (hs : List ℕ) → hs ≡ map {A = Feature} (λ f. f.handle) (touching from F)
    → length hs ≢ 0 → same_place to from ≡ false → may_move from to F ≡ true
move_may from to F hs is n apart =
    let some = some_touched from F (λ z. n (ap (λ (xs : List ℕ). length xs) is ∙ z)) in
    rw (apart, some) refl

-- nobody was told why not
pub move_passed : (d : Desk) (editor : List ℕ) (from to : Place) (o : Option reply_refusal.Refusal) → IsMoveRefusal d editor from to o
    → ((x : reply_refusal.Refusal) → o ≡ Some x → ⊥) → refusal_of d (Move editor from to) ≡ None
move_passed d editor from to None told none = told
move_passed d editor from to (Some x) told none = absurd (none x refl)
