-- Two runs over the same lines from the same state come to the same.
use Rattle.std.proofs.Common.{◌≡◌, ℕ, Bool, List, [], ◌∷◌, refl, sym, ◌∙◌, ap, subst}
use Rattle.topology_terms.specs.Meaning.{CutsRight}
use Rattle.topology_terms.specs.Poster.{poster}
use Rattle.line_terms.specs.Commands.{Command}
use Rattle.script_text.proofs.OneCommand.{one_command}
use Rattle.script_text.proofs.OneFault.{one_line_fault}
use Rattle.script_terms.specs.Refusal.{Line}
use Rattle.script_terms.specs.Reply.{Reply, Refused, reply_text}
use Rattle.script_terms.specs.State.{State}
use Rattle.script_terms.specs.Run.{Reading, Reads, Faulty, Outcome, Step, Run, ComesOf, ReadsAs, is_refusal}
use Rattle.command_answers.proofs.AllVersions.{one_reply}

same_outcome : (o p : Outcome) → o.text ≡ p.text → o.after ≡ p.after → o.refused ≡ p.refused → o ≡ p
same_outcome o p t a r =
    ap (λ (x : List ℕ). record { text = x; after = o.after; refused = o.refused }) t
    ∙ (ap (λ (x : State). record { text = p.text; after = x; refused = o.refused }) a
    ∙ ap (λ (x : Bool). record { text = p.text; after = p.after; refused = x }) r)

replies : (o p : Outcome) (reply said : Reply) → o.text ≡ reply_text reply → o.refused ≡ is_refusal reply → p.text ≡ reply_text said
    → p.refused ≡ is_refusal said
    → reply ≡ said → o.after ≡ p.after → o ≡ p
replies o p reply said t r u q same after =
    same_outcome o p (t ∙ (ap reply_text same ∙ sym u)) after (r ∙ (ap is_refusal same ∙ sym q))

one_step : CutsRight poster → (s : State) (line : List ℕ) (o p : Outcome) → Step s line o → Step s line p → o ≡ p
one_step C s line o p a b = by a.reading b.reading a.reads b.reads a.comes b.comes
  where
    by : (x y : Reading) → ReadsAs line x → ReadsAs line y → ComesOf s x o → ComesOf s y p → o ≡ p
    by (Reads c) (Faulty r) i j k l = absurd (j.0 c i)
    by (Faulty r) (Reads c) i j k l = absurd (i.0 c j)
    by (Faulty r) (Faulty q) i j k l = replies o p (Refused (Line r)) (Refused (Line q)) k.1 k.2 l.1 l.2
        (ap (λ x. Refused (Line x)) (one_line_fault line r q i.1 j.1)) (k.0 ∙ sym l.0)
    by (Reads c) (Reads d) i j k l =
        let same : c ≡ d = one_command line c d i j in
        let l' = subst (λ (e : Command). ComesOf s (Reads e) p) (sym same) l in
        let answer = one_reply C s o.after p.after c k.0 l'.0 a.ordered b.ordered k.1 l'.1 in
        replies o p k.0 l'.0 k.2 k.3 l'.2 l'.3 answer.0 answer.1

pub one_run : CutsRight poster → (s : State) (lines : List (List ℕ)) (os ps : List Outcome) → Run s lines os
    → Run s lines ps → os ≡ ps
one_run C s [] [] [] a b = refl
one_run C s [] [] (p ∷ ps) a b = absurd b
one_run C s [] (o ∷ os) ps a b = absurd a
one_run C s (line ∷ lines) [] ps a b = absurd a
one_run C s (line ∷ lines) (o ∷ os) [] a b = absurd b
one_run C s (line ∷ lines) (o ∷ os) (p ∷ ps) a b =
    let same : o ≡ p = one_step C s line o p a.0 b.0 in
    let rest = one_run C o.after lines os ps a.1 (subst (λ (x : Outcome). Run x.after lines ps) (sym same) b.1) in
    ap (λ x. x ∷ os) same ∙ ap (λ xs. p ∷ xs) rest
