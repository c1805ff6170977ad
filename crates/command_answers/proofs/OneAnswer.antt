-- A command has one reply, and leaves one state.
use Rattle.std.proofs.Common.{◌≡◌, ◌⊎◌, inl, inr, ℕ, ◌<◌, Bool, true, false, List, [], ◌∷◌, ◌++◌, length, Option, Some, None, refl, sym, ◌∙◌, ap, subst, arith}
use Rattle.std.specs.Prelude.{unwrap_or}
use Rattle.plane_terms.specs.Rectangle.{Rectangle}
use Rattle.plane_terms.specs.Cell.{Cell}
use Rattle.corner_terms.specs.CornerLists.{AreOfCells}
use Rattle.cell_corners.proofs.OneList.{one_list}
use Rattle.topology_terms.specs.Broken.{Row}
use Rattle.topology_terms.specs.Changes.{IsFeatureSet, IsEdit, IsRuleAdded, IsRuleDropped, IsUnchanged, IsMarked, SameButMark, KeepsMark, add_envelope}
use Rattle.topology_terms.specs.Counts.{judged_of}
use Rattle.topology_terms.specs.Entry.{Entry, entry_at}
use Rattle.topology_terms.specs.Feature.{Class as AClass, Feature, feature_at, IsSetAt}
use Rattle.topology_terms.specs.Feature as features
use Rattle.topology_terms.specs.Lookups.{class_number}
use Rattle.topology_terms.specs.Meaning.{finding_at, CutsRight}
use Rattle.topology_terms.specs.Poster.{poster}
use Rattle.topology_terms.specs.Project.{Project, InForce, IsOrdered, rule_at}
use Rattle.topology_terms.specs.Settled.{AreAlike, IsValidatedBy}
use Rattle.topology_terms.specs.Session.{EditStep, Session, session_of, with_step}
use Rattle.session_terms.specs.Steps.{with_session}
use Rattle.sound_laws.proofs.FeatureLists.{same_features}
use Rattle.sound_laws.proofs.Lists.{unmark, unmark_option, same_entries, entry_key}
use Rattle.sound_laws.proofs.Edits.{same_or_not}
use Rattle.sound_laws.proofs.RuleLists.{same_rules}
use Rattle.sound_laws.proofs.Settling.{alike_same}
use Rattle.line_terms.specs.Commands.{Command, Blank, Class, Rule, DropRule, Begin, End, Discard, Add, Change, Delete, Retype, Undo, Redo, Explode, Snap, Create, Move, Validate, Mark, Unmark, Dirty, Errors, Cells, Features, Rules, Corners, Version, In, Reconcile, Post}
use Rattle.script_terms.specs.Refusal.{Refusal, BadShape}
use Rattle.plane_terms.specs.Lists.{Every}
use Rattle.plane_terms.specs.Shape.{Shape}
use Rattle.plane_terms.specs.ShapeFaults.{IsFlawless}
use Rattle.plane_terms.specs.declared.shape_fault.ShapeFault.{ShapeFault}
use Rattle.plane_terms.specs.declared.shape_fault.ShapeFault.TheVariants.{NoMemory}
use Rattle.wkt_text.proofs.OneShapeFault.{one_shape_fault}
use Rattle.fix_terms.specs.Plans.{Edit, shapes_of, IsFirstFault}
use Rattle.fix_terms.specs.declared.edit.Edit.TheVariants.{Put, Add as AddTo}
use Rattle.fix_terms.specs.Explode.{exploded}
use Rattle.fix_terms.specs.Snap.{snapped, HasSnapped}
use Rattle.fix_terms.specs.Create.{created}
use Rattle.fix_terms.specs.Move.{moves}
use Rattle.script_terms.specs.Reply.{Reply, Done, Number, Parts, Moved, Judged, Refused, CornerList}
use Rattle.script_terms.specs.State.{Desk}
use Rattle.script_terms.proofs.Restoring.{taken_at}
use Rattle.script_terms.proofs.Runs.{answers_by}
use Rattle.script_terms.specs.Refusing.{refusal_of}
use Rattle.script_terms.specs.Answer.{Answers, IsDone, LeavesNoted, AreNoted, IsFixed, IsUndone, IsRedone, IsDiscarded, AreTakenBack, added_step, IsCornerList}
use Rattle.plane_terms.proofs.Truths.{same_by_truth, there_or_not}
use Rattle.session_terms.proofs.Chains.{end_same, head_same}
use Rattle.plane_terms.proofs.ListLemmas.{those_one}

-- the same reply, and the same state
abbrev pub Same : Reply → Desk → Reply → Desk → Type 0
Same reply t said u = (reply ≡ said) × (t ≡ u)

-- ---- equal by their parts
pub record AreSame (p q : Project) : Type 0 where
  pub classes : p.classes ≡ q.classes
  pub rules : p.rules ≡ q.rules
  pub features : p.features ≡ q.features
  pub next : p.next ≡ q.next
  pub dirt : p.dirt ≡ q.dirt
  pub entries : p.entries ≡ q.entries

by_parts : (p q : Project) → AreSame p q → p ≡ q
by_parts p q h =
    ap (λ (x : List AClass). record {
      classes = x;
      rules = p.rules;
      features = p.features;
      next = p.next;
      dirt = p.dirt;
      entries =
          p.entries;
    }) h.classes
    ∙ (ap (λ (x : List InForce). record {
      classes = q.classes;
      rules = x;
      features = p.features;
      next = p.next;
      dirt = p.dirt;
      entries =
          p.entries;
    }) h.rules
    ∙ (ap (λ (x : List Feature). record {
      classes = q.classes;
      rules = q.rules;
      features = x;
      next = p.next;
      dirt = p.dirt;
      entries =
          p.entries;
    }) h.features
    ∙ (ap (λ (x : ℕ). record { classes = q.classes; rules = q.rules; features = q.features; next = x; dirt = p.dirt; entries = p.entries })
    h.next
    ∙ (ap (λ (x : List Rectangle). record {
      classes = q.classes;
      rules = q.rules;
      features = q.features;
      next = q.next;
      dirt = x;
      entries =
          p.entries;
    }) h.dirt
    ∙ ap (λ (x : List Entry). record {
      classes = q.classes;
      rules = q.rules;
      features = q.features;
      next = q.next;
      dirt = q.dirt;
      entries =
          x;
    }) h.entries))))

same_state : (t u : Desk) → t.project ≡ u.project → t.sessions ≡ u.sessions → t ≡ u
same_state t u p e = ap (λ (q : Project). record { project = q; sessions = t.sessions }) p
    ∙ ap (λ (ss : List Session). record { project = u.project; sessions = ss }) e

-- ---- the changes
set_same : (h : ℕ) (after : Option Feature) (F G H : List Feature) → features.IsAscending G → features.IsAscending H → IsSetAt h after F G
    → IsSetAt h after F H → G ≡ H
set_same h after F G H u v i j = same_features G H u v (λ k. elim (same_or_not k h) [
  | inl e ↦ rw e (i.here ∙ sym j.here)
  | inr n ↦ i.others k n ∙ sym (j.others k n)
])

edit_same : (h : ℕ) (after : Option Feature) (s p q : Project) → IsOrdered p → IsOrdered q → IsEdit h after s p → IsEdit h after s q
    → p.next ≡ q.next → AreSame p q
edit_same h after s p q u v i j next = record {
  classes = i.classes ∙ sym j.classes;
  rules = i.rules ∙ sym j.rules;
  features = set_same h after s.features p.features q.features u.features v.features i.features j.features;
  next = next;
  dirt = i.dirt ∙ sym j.dirt;
  entries = i.entries ∙ sym j.entries;
}

least_same : (s p q : Project) (m n : ℕ) (row : Row) → IsRuleAdded m row s p → IsRuleAdded n row s q → m ≡ n
least_same s p q m n row i j = elim (less_or_more m n) [
  | inl l ↦ absurd (j.least m i.from_1 l i.free)
  | inr d ↦ elim d [ inl l ↦ absurd (i.least n j.from_1 l j.free) | inr e ↦ e ]
]
  where
    less_or_more : (m n : ℕ) → (m < n) ⊎ ((n < m) ⊎ (m ≡ n))
    less_or_more m n = grind arith

rule_same : (s p q : Project) (n : ℕ) (row : Row) → IsOrdered p → IsOrdered q → IsRuleAdded n row s p → IsRuleAdded n row s q → AreSame p q
rule_same s p q n row u v i j = record {
  classes = i.classes ∙ sym j.classes;
  rules = same_rules p.rules q.rules u.rules v.rules (λ k. elim (same_or_not k n) [
    | inl e ↦ rw e (i.here ∙ sym j.here)
    | inr d ↦ i.others k d ∙ sym (j.others k d)
  ]);
  features = i.features ∙ sym j.features;
  next = i.next ∙ sym j.next;
  dirt = i.dirt ∙ sym j.dirt;
  entries = i.entries ∙ sym j.entries;
}

dropped_same : (s p q : Project) (n : ℕ) → IsOrdered p → IsOrdered q → IsRuleDropped n s p → IsRuleDropped n s q → AreSame p q
dropped_same s p q n u v i j = record {
  classes = i.classes ∙ sym j.classes;
  rules = same_rules p.rules q.rules u.rules v.rules (λ k. elim (same_or_not k n) [
    | inl e ↦ rw e (i.here ∙ sym j.here)
    | inr d ↦ i.others k d ∙ sym (j.others k d)
  ]);
  features = i.features ∙ sym j.features;
  next = i.next ∙ sym j.next;
  dirt = i.dirt ∙ sym j.dirt;
  entries = same_entries p.entries q.entries u.entries v.entries (λ r a b. elim (same_or_not r n) [
    | inl e ↦ rw e (i.gone a b ∙ sym (j.gone a b))
    | inr d ↦ i.kept r a b d ∙ sym (j.kept r a b d)
  ]);
}

-- ---- a validation
mark_same : (o : Option Entry) (d e : Entry) → unmark d ≡ unmark e → KeepsMark o d → KeepsMark o e → d.marked ≡ e.marked
mark_same None d e same h k = h ∙ sym k
mark_same (Some w) d e same h k =
    let over : IsUnchanged w d → IsUnchanged w e = λ x. record {
      whole = x.whole ∙ ap (λ (y : Entry). y.whole) same;
      frame = x.frame
          ∙ ap (λ (y : Entry). y.frame) same;
      cells = x.cells ∙ ap (λ (y : Entry). y.cells) same;
    } in
    let back : IsUnchanged w e → IsUnchanged w d = λ x. record {
      whole = x.whole ∙ sym (ap (λ (y : Entry). y.whole) same);
      frame = x.frame
          ∙ sym (ap (λ (y : Entry). y.frame) same);
      cells = x.cells ∙ sym (ap (λ (y : Entry). y.cells) same);
    } in
    same_by_truth d.marked e.marked (λ m. let y = h.0 m in k.1 (y.0, over y.1)) (λ m. let y = k.0 m in h.1 (y.0, back y.1))

option_same : (o d e : Option Entry) → unmark_option d ≡ unmark_option e → ((x : Entry) → d ≡ Some x → KeepsMark o x)
    → ((x : Entry) → e ≡ Some x → KeepsMark o x) → d ≡ e
option_same o None None same h k = refl
option_same o None (Some e) same h k = absurd cc
option_same o (Some d) None same h k = absurd cc
option_same o (Some d) (Some e) same h k =
    let bare : unmark d ≡ unmark e = cc in
    let marks : d.marked ≡ e.marked = mark_same o d e bare (h d refl) (k e refl) in
    ap (λ (x : Entry). Some (record x { marked = d.marked })) bare ∙ ap (λ (m : Bool). Some (record e { marked = m })) marks

-- ---- a mark
made_same : (r s a b c d : ℕ) (w x m n : Bool) (f g : Rectangle) (cs ds : List Cell) → r ≡ s → a ≡ b → c ≡ d → w ≡ x → m ≡ n → f ≡ g
    → cs ≡ ds
    → (let y : Entry = record { rule = r; subject = a; other = c; whole = w; marked = m; frame = f; cells = cs } in
    let z : Entry = record { rule = s; subject = b; other = d; whole = x; marked = n; frame = g; cells = ds } in
    y ≡ z)
made_same r s a b c d w x m n f g cs ds e1 e2 e3 e4 e5 e6 e7 = rw (e1, e2, e3, e4, e5, e6, e7) refl

-- two entries of one key that are the same as a third, marks aside, and have one mark
marked_option : (o d e : Option Entry) (r a b : ℕ) (on : Bool) → SameButMark o d → SameButMark o e
    → ((x : Entry) → d ≡ Some x → (x.rule ≡ r) × (x.subject ≡ a) × (x.other ≡ b) × (x.marked ≡ on))
    → ((x : Entry) → e ≡ Some x → (x.rule ≡ r) × (x.subject ≡ a) × (x.other ≡ b) × (x.marked ≡ on)) → d ≡ e
marked_option None None None r a b on h k p q = refl
marked_option None None (Some e) r a b on h k p q = absurd k
marked_option None (Some d) e r a b on h k p q = absurd h
marked_option (Some w) None e r a b on h k p q = absurd h
marked_option (Some w) (Some d) None r a b on h k p q = absurd k
marked_option (Some w) (Some d) (Some e) r a b on h k p q =
    let x = p d refl in
    let y = q e refl in
    ap (λ (z : Entry). Some z) (made_same d.rule e.rule d.subject e.subject d.other e.other d.whole e.whole d.marked e.marked d.frame
    e.frame d.cells e.cells
    (x.0 ∙ sym y.0) (x.1 ∙ sym y.1) (x.2 ∙ sym y.2) (sym h.whole ∙ k.whole) (x.3 ∙ sym y.3) (sym h.frame ∙ k.frame) (sym h.cells ∙ k.cells))

key_or_not : (r a b k c d : ℕ) → ((k ≡ r) × (c ≡ a) × (d ≡ b)) ⊎ (¬ ((k ≡ r) × (c ≡ a) × (d ≡ b)))
key_or_not r a b k c d = elim (same_or_not k r) [
  | inr n ↦ inr (λ z. n z.0)
  | inl i ↦ elim (same_or_not c a) [
    | inr n ↦ inr (λ z. n z.1)
    | inl j ↦ elim (same_or_not d b) [ inr n ↦ inr (λ z. n z.2) | inl l ↦ inl (i, j, l) ]
  ]
]

marked_same : (r a b : ℕ) (on : Bool) (s p q : Project) → IsOrdered p → IsOrdered q → IsMarked r a b on s p → IsMarked r a b on s q
    → AreSame p q
marked_same r a b on s p q u v i j = record {
  classes = i.marking.classes ∙ sym j.marking.classes;
  rules = i.marking.rules ∙ sym j.marking.rules;
  features = i.marking.features ∙ sym j.marking.features;
  next = i.marking.next ∙ sym j.marking.next;
  dirt = i.marking.dirt ∙ sym j.marking.dirt;
  entries = same_entries p.entries q.entries u.entries v.entries (λ k c d. elim (key_or_not r a b k c d) [
    | inr n ↦ i.others k c d n ∙ sym (j.others k c d n)
    | inl z ↦ rw (z.0, z.1, z.2) here
  ]);
}
  where
    here : entry_at p.entries r a b ≡ entry_at q.entries r a b
    here = marked_option (entry_at s.entries r a b) (entry_at p.entries r a b) (entry_at q.entries r a b) r a b on (i.marking.entries r a b)
        (j.marking.entries r a b)
        (λ x e. let z = entry_key p.entries r a b x e in (z.0, z.1, z.2, i.here x e))
        (λ x e. let z = entry_key q.entries r a b x e in (z.0, z.1, z.2, j.here x e))

entry_same : CutsRight poster → (w : Rectangle) (s p q : Project) → IsValidatedBy poster w s p → IsValidatedBy poster w s q → (r a b : ℕ)
    → entry_at p.entries r a b ≡ entry_at q.entries r a b
entry_same C w s p q i j r a b = elim (i.each a) [
  | inr y ↦ elim (j.each a) [
    | inl z ↦ absurd (y.0 z.0)
    | inr z ↦ y.1 r b ∙ sym (z.1 r b)
  ]
  | inl y ↦ elim (j.each a) [
    | inr z ↦ absurd (z.0 y.0)
    | inl z ↦ elim (there_or_not (rule_at s.rules r)) [
      | inr n ↦ y.1.idle r n b ∙ sym (z.1.idle r n b)
      | inl row ↦ elim (there_or_not (feature_at s.features a)) [
        | inr n ↦ y.1.dead n r b ∙ sym (z.1.dead n r b)
        | inl f ↦
            let m = y.1.live f.0 f.1 r row.0 row.1 in
            let n = z.1.live f.0 f.1 r row.0 row.1 in
            let e = C.one row.0 s.features a n.0 m.0 n.1 m.1 in
            let l : AreAlike f.0 (finding_at m.0 b) (entry_at q.entries r a b) = rw e at (n.2 b) in
            option_same (entry_at s.entries r a b) (entry_at p.entries r a b) (entry_at q.entries r a b)
            (alike_same f.0 (finding_at m.0 b) (entry_at p.entries r a b) (entry_at q.entries r a b) r a b
            (λ x k. entry_key p.entries r a b x k) (λ x k. entry_key q.entries r a b x k) (m.2 b) l)
            (λ x k. i.marks r a b x y.0 k) (λ x k. j.marks r a b x y.0 k)
      ]
    ]
  ]
]

validated_same : CutsRight poster → (w : Rectangle) (s p q : Project) → IsOrdered p → IsOrdered q → IsValidatedBy poster w s p
    → IsValidatedBy poster w s q → AreSame p q
validated_same C w s p q u v i j = record {
  classes = i.classes ∙ sym j.classes;
  rules = i.rules ∙ sym j.rules;
  features = i.features ∙ sym j.features;
  next = i.next ∙ sym j.next;
  dirt = i.dirt ∙ sym j.dirt;
  entries = same_entries p.entries q.entries u.entries v.entries (entry_same C w s p q i j);
}

-- the elements that are chosen are one list
-- ---- each command
kept_same : (s t u : Desk) → t ≡ s → u ≡ s → t ≡ u
kept_same s t u i j = i ∙ sym j

left_same : (s t u : Desk) → t.sessions ≡ s.sessions → u.sessions ≡ s.sessions → AreSame t.project u.project → t ≡ u
left_same s t u e f h = same_state t u (by_parts t.project u.project h) (e ∙ sym f)

-- ---- the sessions
some_same : {A : Type 0} (o : Option A) (x y : A) → o ≡ Some x → o ≡ Some y → x ≡ y
some_same o x y i j = let e : Some x ≡ Some y = sym i ∙ j in cc

noted_same : {P Q : Project → Project → Type 0} (editor : List ℕ) (s t u : Desk) (x y : EditStep) → LeavesNoted editor x P s t
    → LeavesNoted editor y Q s u → x ≡ y → AreSame t.project u.project → t ≡ u
noted_same {P} {Q} editor s t u x y i j step h =
    let was : i.0 ≡ j.0 = some_same (session_of s.sessions editor) i.0 j.0 i.1.session.there j.1.session.there in
    let is : with_step i.0 x ≡ with_step j.0 y = ap (λ (z : Session). with_step z x) was ∙ ap (with_step j.0) step in
    same_state t u (by_parts t.project u.project h) (i.1.session.sessions ∙ (ap (with_session s.sessions) is ∙ sym j.1.session.sessions))

parts_same : (s u : Session) → s.name ≡ u.name → s.done ≡ u.done → s.undone ≡ u.undone → s ≡ u
parts_same s u n d k =
    ap (λ (x : List ℕ). record { name = x; done = s.done; undone = s.undone }) n
    ∙ (ap (λ (x : List EditStep). record { name = u.name; done = x; undone = s.undone }) d
    ∙ ap (λ (x : List EditStep). record { name = u.name; done = u.done; undone = x }) k)

set_project : (h : ℕ) (after : Option Feature) (s p q : Project) → IsOrdered p → IsOrdered q → IsFeatureSet h after s p
    → IsFeatureSet h after s q → p ≡ q
set_project h after s p q v w i j = by_parts p q (edit_same h after s p q v w i.edit j.edit (i.next ∙ sym j.next))

undo_same : (editor : List ℕ) (s t u : Desk) → IsOrdered t.project → IsOrdered u.project → IsUndone editor s t → IsUndone editor s u
    → t ≡ u
undo_same editor s t u v w i j =
    let was : i.1 ≡ j.1 = some_same (session_of s.sessions editor) i.1 j.1 i.4.session.there j.4.session.there in
    let e = end_same i.2.done j.2.done i.0 j.0 (sym i.3.done ∙ (ap (λ (z : Session). z.done) was ∙ j.3.done)) in
    let left : i.2.undone ≡ j.2.undone = i.3.undone ∙ (ap (λ (z : EditStep). z ∷ i.1.undone) e.1
    ∙ (ap (λ (z : Session). j.0 ∷ z.undone) was ∙ sym j.3.undone)) in
    let is : i.2 ≡ j.2 = parts_same i.2 j.2 (i.3.name ∙ (ap (λ (z : Session). z.name) was ∙ sym j.3.name)) e.0 left in
    let set = subst (λ (z : EditStep). IsFeatureSet z.handle z.before s.project t.project) e.1 i.4.project in
    same_state t u (set_project j.0.handle j.0.before s.project t.project u.project v w set j.4.project) (i.4.session.sessions
    ∙ (ap (with_session s.sessions) is ∙ sym j.4.session.sessions))

redo_same : (editor : List ℕ) (s t u : Desk) → IsOrdered t.project → IsOrdered u.project → IsRedone editor s t → IsRedone editor s u
    → t ≡ u
redo_same editor s t u v w i j =
    let was : i.1 ≡ j.1 = some_same (session_of s.sessions editor) i.1 j.1 i.4.session.there j.4.session.there in
    let e = head_same i.0 j.0 i.2.undone j.2.undone (sym i.3.undone ∙ (ap (λ (z : Session). z.undone) was ∙ j.3.undone))
    in
    let left : i.2.done ≡ j.2.done = i.3.done ∙ (ap (λ (z : EditStep). i.1.done ++ z ∷ []) e.0
    ∙ (ap (λ (z : Session). z.done ++ j.0 ∷ []) was ∙ sym j.3.done)) in
    let is : i.2 ≡ j.2 = parts_same i.2 j.2 (sym i.3.name ∙ (ap (λ (z : Session). z.name) was ∙ j.3.name)) left e.1 in
    let set = subst (λ (z : EditStep). IsFeatureSet z.handle z.after s.project t.project) e.0 i.4.project in
    same_state t u (set_project j.0.handle j.0.after s.project t.project u.project v w set j.4.project) (i.4.session.sessions
    ∙ (ap (with_session s.sessions) is ∙ sym j.4.session.sessions))

-- steps that are taken back: all but the features, and the look-up of those, is told step by step
pub record SameRest (p q : Project) : Type 0 where
  pub classes : q.classes ≡ p.classes
  pub rules : q.rules ≡ p.rules
  pub next : q.next ≡ p.next
  pub entries : q.entries ≡ p.entries

taken_rest : (ts : List EditStep) (s p : Project) → AreTakenBack ts s p → SameRest s p
taken_rest [] s p i = record {
  classes = ap (λ (x : Project). x.classes) i;
  rules = ap (λ (x : Project). x.rules) i;
  next =
      ap (λ (x : Project). x.next) i;
  entries = ap (λ (x : Project). x.entries) i;
}
taken_rest (x ∷ ts) s p i =
    let r = taken_rest ts s i.0 i.1 in
    record {
      classes = i.2.edit.classes ∙ r.classes;
      rules = i.2.edit.rules ∙ r.rules;
      next = i.2.next ∙ r.next;
      entries = i.2.edit.entries
          ∙ r.entries;
    }

taken_dirt : (ts : List EditStep) (s p q : Project) → AreTakenBack ts s p → AreTakenBack ts s q → p.dirt ≡ q.dirt
taken_dirt [] s p q i j = ap (λ (x : Project). x.dirt) (i ∙ sym j)
taken_dirt (x ∷ ts) s p q i j =
    let m = i.0 in
    let n = j.0 in
    let look : feature_at m.features x.handle ≡ feature_at n.features x.handle = taken_at ts s m x.handle i.1
    ∙ sym (taken_at ts s n x.handle j.1) in
    i.2.edit.dirt ∙ (ap (λ d. add_envelope (add_envelope d (feature_at m.features x.handle)) x.before) (taken_dirt ts s m n i.1 j.1)
    ∙ (ap (λ o. add_envelope (add_envelope n.dirt o) x.before) look ∙ sym j.2.edit.dirt))

discard_same : (editor : List ℕ) (s t u : Desk) → IsOrdered t.project → IsOrdered u.project → IsDiscarded editor s t
    → IsDiscarded editor s u → t ≡ u
discard_same editor s t u v w i j =
    let ts = i.session.done in
    let session : i.session ≡ j.session = some_same (session_of s.sessions editor) i.session j.session i.there j.there in
    let back = subst (λ (z : Session). AreTakenBack z.done s.project u.project) (sym session) j.taken_back in
    let m = taken_rest ts s.project t.project i.taken_back in
    let n = taken_rest ts s.project u.project back in
    same_state t u (by_parts t.project u.project (record {
      classes = m.classes ∙ sym n.classes;
      rules = m.rules ∙ sym n.rules;
      features = same_features t.project.features u.project.features v.features w.features
          (λ k. taken_at ts s.project t.project k i.taken_back ∙ sym (taken_at ts s.project u.project k back));
      next = m.next ∙ sym n.next;
      dirt = taken_dirt ts s.project t.project u.project i.taken_back back;
      entries = m.entries ∙ sym n.entries;
    })) (i.sessions ∙ sym j.sessions)

-- the cells of the error have one list of corners
one_corner_list : (p : Project) (r a b : ℕ) (reply said : Reply) → IsCornerList p r a b reply → IsCornerList p r a b said → reply ≡ said
one_corner_list p r a b reply said (e, ks, at, are, is) (f, ls, here, have, says) =
    let same : e ≡ f = some_same (entry_at p.entries r a b) e f at here in
    is ∙ (ap CornerList (one_list 1 f.cells ks ls (subst (λ (x : Entry). AreOfCells 1 x.cells ks) same are) have) ∙ sym says)

-- ---- plans
noted_plan : (editor : List ℕ) (es : List Edit) (s t u : Desk) → AreNoted editor es s t → AreNoted editor es s u → t ≡ u
noted_plan editor [] s t u i j = i ∙ sym j
noted_plan editor (Put h x ∷ es) s t u (m, v, l, r) (n, w, k, q) =
    let same : m ≡ n = noted_same editor s m n _ _ l k refl (edit_same h _ s.project m.project n.project v w l.1.project.edit
    k.1.project.edit (l.1.project.next ∙ sym k.1.project.next)) in
    noted_plan editor es n t u (subst (λ (d : Desk). AreNoted editor es d t) same r) q
noted_plan editor (AddTo c b x ∷ es) s t u (m, v, l, r) (n, w, k, q) =
    let same : m ≡ n = noted_same editor s m n _ _ l k refl (edit_same _ _ s.project m.project n.project v w l.1.project.edit
    k.1.project.edit (l.1.project.next ∙ sym k.1.project.next)) in
    noted_plan editor es n t u (subst (λ (d : Desk). AreNoted editor es d t) same r) q

-- no shape of a plan has a fault, or the first that has one has just that
none_bad : (ss : List Shape) (e : ShapeFault) → Every IsFlawless ss → IsFirstFault ss e → (e ≡ NoMemory → ⊥) → ⊥
none_bad [] e h k n = k
none_bad (s ∷ ss) e h (inl f) n = n (h.0 e f)
none_bad (s ∷ ss) e h (inr r) n = none_bad ss e h.1 r.1 n

one_bad : (ss : List Shape) (e f : ShapeFault) → (e ≡ NoMemory → ⊥) → (f ≡ NoMemory → ⊥) → IsFirstFault ss e → IsFirstFault ss f → e ≡ f
one_bad [] e f m n h k = absurd h
one_bad (s ∷ ss) e f m n (inl h) (inl k) = one_shape_fault s e f m n h k
one_bad (s ∷ ss) e f m n (inl h) (inr k) = absurd (m (k.0 e h))
one_bad (s ∷ ss) e f m n (inr h) (inl k) = absurd (n (h.0 f k))
one_bad (s ∷ ss) e f m n (inr h) (inr k) = one_bad ss e f m n h.1 k.1

fixed_same : {P Q : List Feature → Type 0} (editor : List ℕ) (es : List Edit) (says : Reply) (s t u : Desk) (reply said : Reply)
    → IsFixed editor es P says s reply t → IsFixed editor es Q says s said u → Same reply t said u
fixed_same editor es says s t u reply said (inl x) (inl y) = (x.1 ∙ sym y.1, noted_plan editor es s t u x.2.noted y.2.noted)
fixed_same editor es says s t u reply said (inl x) (inr y) = absurd (none_bad (shapes_of es) y.0 x.0 y.1.first y.1.other)
fixed_same editor es says s t u reply said (inr x) (inl y) = absurd (none_bad (shapes_of es) x.0 y.0 x.1.first x.1.other)
fixed_same editor es says s t u reply said (inr x) (inr y) =
    let same : x.0 ≡ y.0 = one_bad (shapes_of es) x.0 y.0 x.1.other y.1.other x.1.first y.1.first in
    (x.2 ∙ (ap (λ (f : ShapeFault). Refused (BadShape f)) same ∙ sym y.2), kept_same s t u x.3 y.3)

judged_same : (a b c x y z : ℕ) → a ≡ x → b ≡ y → c ≡ z → Judged a b c ≡ Judged x y z
judged_same a b c x y z i j k = rw (i, j, k) refl

pub one_done : CutsRight poster → (s t u : Desk) (c : Command) (reply said : Reply) → IsOrdered t.project → IsOrdered u.project
    → IsDone s c reply t → IsDone s c said u → Same reply t said u
one_done C s t u Blank reply said v w d e = (d.0 ∙ sym e.0, kept_same s t u d.1 e.1)
one_done C s t u (Class name k) reply said v w d e = (
  d.0 ∙ sym e.0,
  left_same s t u d.1.sessions e.1.sessions (record {
    classes = d.1.project.classes ∙ sym e.1.project.classes;
    rules = d.1.project.rules ∙ sym e.1.project.rules;
    features = d.1.project.features ∙ sym e.1.project.features;
    next = d.1.project.next ∙ sym e.1.project.next;
    dirt = d.1.project.dirt ∙ sym e.1.project.dirt;
    entries = d.1.project.entries ∙ sym e.1.project.entries;
  }),
)
one_done C s t u (Rule k origin dest) reply said v w (m, d, i) (n, e, j) =
    let same : m ≡ n = least_same s.project t.project u.project m n _ i.project j.project in (
      d ∙ (ap Number same ∙ sym e),
      left_same s t u i.sessions j.sessions (rule_same s.project t.project u.project n _ v w
          (rw same at i.project) j.project),
    )
one_done C s t u (DropRule r) reply said v w d e = (
  d.0 ∙ sym e.0,
  left_same s t u d.1.sessions e.1.sessions
      (dropped_same s.project t.project u.project r v w d.1.project e.1.project),
)
one_done C s t u (Begin editor) reply said v w d e = (d.0 ∙ sym e.0, d.1 ∙ sym e.1)
one_done C s t u (End editor) reply said v w d e = (d.0 ∙ sym e.0, d.1 ∙ sym e.1)
one_done C s t u (Discard editor) reply said v w d e = (d.0 ∙ sym e.0, discard_same editor s t u v w d.1 e.1)
one_done C s t u (Add editor own shape) reply said v w (g, d, i) (h, e, j) =
    let same : g ≡ h = i.1.project.number ∙ sym j.1.project.number in
    let k = rw same at i.1.project.edit in (
      d ∙ (ap Number same ∙ sym e),
      noted_same editor s t u _ _ i j (ap (λ (n : ℕ). added_step n (unwrap_or (class_number s.project own.name) 0) (unwrap_or own.subtype 0) shape) same)
          (edit_same h _ s.project t.project u.project v w k j.1.project.edit (i.1.project.next ∙ sym j.1.project.next)),
    )
one_done C s t u (Change editor h shape) reply said v w d e = (
  d.0 ∙ sym e.0,
  noted_same editor s t u _ _ d.1 e.1 refl (edit_same h _ s.project t.project u.project v w d.1.1.project.edit
      e.1.1.project.edit (d.1.1.project.next ∙ sym e.1.1.project.next)),
)
one_done C s t u (Delete editor h) reply said v w d e = (
  d.0 ∙ sym e.0,
  noted_same editor s t u _ _ d.1 e.1 refl (edit_same h None s.project t.project u.project v w
      d.1.1.project.edit e.1.1.project.edit (d.1.1.project.next ∙ sym e.1.1.project.next)),
)
one_done C s t u (Retype editor h n) reply said v w d e = (
  d.0 ∙ sym e.0,
  noted_same editor s t u _ _ d.1 e.1 refl (edit_same h _ s.project t.project u.project v w d.1.1.project.edit
      e.1.1.project.edit (d.1.1.project.next ∙ sym e.1.1.project.next)),
)
one_done C s t u (Undo editor) reply said v w d e = (d.0 ∙ sym e.0, undo_same editor s t u v w d.1 e.1)
one_done C s t u (Redo editor) reply said v w d e = (d.0 ∙ sym e.0, redo_same editor s t u v w d.1 e.1)
one_done C s t u (Explode editor h) reply said v w (f, a, d, i) (g, b, e, j) =
    let same : f ≡ g = some_same (feature_at s.project.features h) f g a b in (
      d ∙ (ap (λ (x : Feature). Parts (length x.shape.parts)) same ∙ sym e),
      noted_plan editor (exploded g) s t u (subst (λ (x : Feature). AreNoted editor (exploded x) s t) same i.noted) j.noted,
    )
one_done C s t u (Snap editor r h n to) reply said v w (row, f, a, b, i) (rule, g, c, d, j) =
    let rows : row ≡ rule = some_same (rule_at s.project.rules r) row rule a c in
    let same : f ≡ g = some_same (feature_at s.project.features h) f g b d in
    let k = subst (λ (x : Row). IsFixed editor (snapped n to f) (HasSnapped x f n to s.project.features) Done s reply t) rows i in
    let l = subst (λ (x : Feature). IsFixed editor (snapped n to x) (HasSnapped rule x n to s.project.features) Done s reply t) same k in
    fixed_same editor (snapped n to g) Done s t u reply said l j
one_done C s t u (Create editor r h at) reply said v w (row, f, a, b, d, i) (rule, g, c, k, e, j) =
    let rows : row ≡ rule = some_same (rule_at s.project.rules r) row rule a c in
    (d ∙ sym e, noted_plan editor (created rule at) s t u (subst (λ (x : Row). AreNoted editor (created x at) s t) rows i.noted) j.noted)
one_done C s t u (Move editor from to) reply said v w d e =
    let F = s.project.features in
    fixed_same editor (moves from to F) (Moved (length (moves from to F))) s t u reply said d e
one_done C s t u (Validate win) reply said v w (j1, p, l1, is1) (j2, q, l2, is2) =
    let parts = validated_same C win s.project t.project u.project v w l1.project l2.project in
    let chosen = those_one _ s.project.features p.0 q.0 p.1 q.1 in
    let judged : j1 ≡ j2 = p.2 ∙ (ap (λ fs. judged_of s.project.rules fs) chosen ∙ sym q.2) in (
      is1 ∙ (judged_same j1 _ _ j2 _ _ judged (ap length parts.entries) (ap length parts.dirt) ∙ sym is2),
      left_same s t u l1.sessions l2.sessions parts,
    )
one_done C s t u (Mark r a b) reply said v w d e = (
  d.0 ∙ sym e.0,
  left_same s t u d.1.sessions e.1.sessions (marked_same r a b true s.project t.project u.project v w d.1.project
      e.1.project),
)
one_done C s t u (Unmark r a b) reply said v w d e = (
  d.0 ∙ sym e.0,
  left_same s t u d.1.sessions e.1.sessions (marked_same r a b false s.project t.project u.project v w d.1.project
      e.1.project),
)
one_done C s t u Dirty reply said v w d e = (d.0 ∙ sym e.0, kept_same s t u d.1 e.1)
one_done C s t u Errors reply said v w d e = (d.0 ∙ sym e.0, kept_same s t u d.1 e.1)
one_done C s t u Cells reply said v w d e = (d.0 ∙ sym e.0, kept_same s t u d.1 e.1)
one_done C s t u Features reply said v w d e = (d.0 ∙ sym e.0, kept_same s t u d.1 e.1)
one_done C s t u Rules reply said v w d e = (d.0 ∙ sym e.0, kept_same s t u d.1 e.1)
one_done C s t u (Version n) reply said v w d e = absurd d
one_done C s t u (In n) reply said v w d e = absurd d
one_done C s t u (Reconcile n) reply said v w d e = absurd d
one_done C s t u (Post n) reply said v w d e = absurd d
one_done C s t u (Corners r a b) reply said v w d e = (one_corner_list s.project r a b reply said d.0 e.0, kept_same s t u d.1 e.1)

pub one_answer : CutsRight poster → (s t u : Desk) (c : Command) (reply said : Reply) → IsOrdered t.project → IsOrdered u.project
    → Answers s c reply t → Answers s c said u → Same reply t said u
one_answer C s t u c reply said v w d e = by (refusal_of s c) d e
  where
    by : (o : Option Refusal) → answers_by o s c reply t → answers_by o s c said u → Same reply t said u
    by (Some r) i j = (i.0 ∙ sym j.0, kept_same s t u i.1 j.1)
    by None i j = one_done C s t u c reply said v w i j
