-- A line that is none of versions is done at the desk, and a line of versions leaves the desk without a session.
use Rattle.std.proofs.Common.{◌≡◌, Bool, true, false, List, [], ◌∷◌, length, Option, Some, None, refl, sym, ◌∙◌, subst, eqb, inl, inr, arith}
use Rattle.std.proofs.lemmas.Bool.{eqb-true}
use Rattle.std.specs.Prelude.{not}
use Rattle.topology_terms.specs.Causes.{when, first_of}
use Rattle.topology_terms.specs.Session.{Session}
use Rattle.line_terms.specs.Commands.{Command, Blank, Class, Rule, DropRule, Begin, End, Discard, Add, Change, Delete, Retype, Undo, Redo, Explode, Snap, Create, Move, Validate, Mark, Unmark, Dirty, Errors, Cells, Features, Rules, Corners, Version, In, Reconcile, Post}
use Rattle.script_terms.specs.Refusal.{Refusal, SessionsOpen}
use Rattle.script_terms.specs.Reply.{Reply}
use Rattle.script_terms.specs.State.{Desk, State, desk_of}
use Rattle.script_terms.specs.Keeping.{IsKeeping}
use Rattle.script_terms.specs.Versions.{AtDesk, IsMade, barred, is_of_one}

pub made_at_desk : (s t : State) (c : Command) (reply : Reply) → is_of_one c ≡ true → AtDesk s c reply t → IsMade s c reply t
made_at_desk s t Blank reply o m = m
made_at_desk s t (Class n k) reply o m = m
made_at_desk s t (Rule k a d) reply o m = m
made_at_desk s t (DropRule r) reply o m = m
made_at_desk s t (Begin e) reply o m = m
made_at_desk s t (End e) reply o m = m
made_at_desk s t (Discard e) reply o m = m
made_at_desk s t (Add e a x) reply o m = m
made_at_desk s t (Change e h x) reply o m = m
made_at_desk s t (Delete e h) reply o m = m
made_at_desk s t (Retype e h u) reply o m = m
made_at_desk s t (Undo e) reply o m = m
made_at_desk s t (Redo e) reply o m = m
made_at_desk s t (Explode e h) reply o m = m
made_at_desk s t (Snap e r h i to) reply o m = m
made_at_desk s t (Create e r h at) reply o m = m
made_at_desk s t (Move e from to) reply o m = m
made_at_desk s t (Validate w) reply o m = m
made_at_desk s t (Mark r a b) reply o m = m
made_at_desk s t (Unmark r a b) reply o m = m
made_at_desk s t Dirty reply o m = m
made_at_desk s t Errors reply o m = m
made_at_desk s t Cells reply o m = m
made_at_desk s t Features reply o m = m
made_at_desk s t Rules reply o m = m
made_at_desk s t (Corners r a b) reply o m = m
made_at_desk s t (Version n) reply o m = cc
made_at_desk s t (In n) reply o m = cc
made_at_desk s t (Reconcile n) reply o m = cc
made_at_desk s t (Post n) reply o m = cc

pub desk_made : (s t : State) (c : Command) (reply : Reply) → is_of_one c ≡ true → IsMade s c reply t → AtDesk s c reply t
desk_made s t Blank reply o m = m
desk_made s t (Class n k) reply o m = m
desk_made s t (Rule k a d) reply o m = m
desk_made s t (DropRule r) reply o m = m
desk_made s t (Begin e) reply o m = m
desk_made s t (End e) reply o m = m
desk_made s t (Discard e) reply o m = m
desk_made s t (Add e a x) reply o m = m
desk_made s t (Change e h x) reply o m = m
desk_made s t (Delete e h) reply o m = m
desk_made s t (Retype e h u) reply o m = m
desk_made s t (Undo e) reply o m = m
desk_made s t (Redo e) reply o m = m
desk_made s t (Explode e h) reply o m = m
desk_made s t (Snap e r h i to) reply o m = m
desk_made s t (Create e r h at) reply o m = m
desk_made s t (Move e from to) reply o m = m
desk_made s t (Validate w) reply o m = m
desk_made s t (Mark r a b) reply o m = m
desk_made s t (Unmark r a b) reply o m = m
desk_made s t Dirty reply o m = m
desk_made s t Errors reply o m = m
desk_made s t Cells reply o m = m
desk_made s t Features reply o m = m
desk_made s t Rules reply o m = m
desk_made s t (Corners r a b) reply o m = m
desk_made s t (Version n) reply o m = cc
desk_made s t (In n) reply o m = cc
desk_made s t (Reconcile n) reply o m = cc
desk_made s t (Post n) reply o m = cc

-- ---- a line of versions is done where no session is open
some_open : (x : Session) (ss : List Session) → eqb (length (x ∷ ss)) 0 ≡ false
some_open x ss = by (eqb (length (x ∷ ss)) 0) refl
  where
    by : (b : Bool) → eqb (length (x ∷ ss)) 0 ≡ b → eqb (length (x ∷ ss)) 0 ≡ false
    by true e = let k : length (x ∷ ss) ≡ 0 = eqb-true (length (x ∷ ss)) 0 e in absurd (omega (arith, k))
    by false e = e

closed : (ss : List Session) (rest : List (Option Refusal)) → first_of (when (not (eqb (length ss) 0)) SessionsOpen ∷ rest) ≡ None → ss ≡ []
closed [] rest e = refl
closed (x ∷ ss) rest e = let k : Some SessionsOpen ≡ None = rw (some_open x ss) at e in cc

none_kept : (d : Desk) → d.sessions ≡ [] → IsKeeping d
none_kept d e =
    let here : IsKeeping (record { project = d.project; sessions = [] }) = record { apart = tt; chained = tt; given = tt } in
    subst (λ (ss : List Session). IsKeeping (record { project = d.project; sessions = ss })) (sym e) here

pub made_keep : (s : State) (c : Command) (reply : Reply) (t : State) → is_of_one c ≡ false → barred s c ≡ None → IsKeeping (desk_of s)
    → IsMade s c reply t → IsKeeping (desk_of t)
made_keep s (Version n) reply t o e k m = none_kept (desk_of t) (m.1.sessions ∙ closed s.sessions _ e)
made_keep s (In n) reply t o e k m = none_kept (desk_of t) (m.1.sessions ∙ closed s.sessions _ e)
made_keep s (Reconcile n) reply t o e k m = none_kept (desk_of t) (m.3.sessions ∙ closed s.sessions _ e)
made_keep s (Post n) reply t o e k (inl m) = subst (λ (x : State). IsKeeping (desk_of x)) (sym m.3) k
made_keep s (Post n) reply t o e k (inr m) = none_kept (desk_of t) (m.2.sessions ∙ closed s.sessions _ e)
made_keep s Blank reply t o e k m = cc
made_keep s (Class n x) reply t o e k m = cc
made_keep s (Rule x a d) reply t o e k m = cc
made_keep s (DropRule r) reply t o e k m = cc
made_keep s (Begin b) reply t o e k m = cc
made_keep s (End b) reply t o e k m = cc
made_keep s (Discard b) reply t o e k m = cc
made_keep s (Add b a x) reply t o e k m = cc
made_keep s (Change b h x) reply t o e k m = cc
made_keep s (Delete b h) reply t o e k m = cc
made_keep s (Retype b h u) reply t o e k m = cc
made_keep s (Undo b) reply t o e k m = cc
made_keep s (Redo b) reply t o e k m = cc
made_keep s (Explode b h) reply t o e k m = cc
made_keep s (Snap b r h i to) reply t o e k m = cc
made_keep s (Create b r h at) reply t o e k m = cc
made_keep s (Move b from to) reply t o e k m = cc
made_keep s (Validate w) reply t o e k m = cc
made_keep s (Mark r a b) reply t o e k m = cc
made_keep s (Unmark r a b) reply t o e k m = cc
made_keep s Dirty reply t o e k m = cc
made_keep s Errors reply t o e k m = cc
made_keep s Cells reply t o e k m = cc
made_keep s Features reply t o e k m = cc
made_keep s Rules reply t o e k m = cc
made_keep s (Corners r a b) reply t o e k m = cc
