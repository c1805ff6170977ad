-- In a run a line of versions does what it is for, and no other line touches another version.
use Rattle.std.proofs.Common.{◌≡◌, ℕ, true, false, List, Option, Some, None, sym, ◌∙◌, ap, subst, inl, inr}
use Rattle.std.specs.Prelude.{MatchOption}
use Rattle.line_terms.specs.Commands.{Command, Version, In, Reconcile, Post}
use Rattle.line_terms.specs.Lines.{IsCommandLine}
use Rattle.script_text.proofs.OneCommand.{one_command}
use Rattle.version_terms.specs.VersionChanges.{IsCreated, IsGone}
use Rattle.version_tree.specs.ByName.{IsMergedByName, IsPostedByName}
use Rattle.version_tree.proofs.ByName.{merged_by_name, posted_by_name}
use Rattle.script_terms.specs.Refusal.{Refusal}
use Rattle.script_terms.specs.Reply.{Reply, Merged, Posted, Refused, reply_text}
use Rattle.script_terms.specs.Run.{Reading, Reads, Faulty, Outcome, Step, ComesOf, ReadsAs, is_refusal}
use Rattle.script_terms.specs.State.{Aside, State, tree_of}
use Rattle.script_terms.specs.Versions.{IsMade, IsPostAnswer, barred, is_of_one}
use Rattle.script_terms.proofs.Desks.{desk_made}

-- what a line makes that is read and not refused
record IsMadeBy (s : State) (c : Command) (o : Outcome) : Type 0 where
  pub reply : Reply
  pub told : is_refusal reply ≡ false
  pub text : o.text ≡ reply_text reply
  pub made : IsMade s c reply o.after

line_made : (s : State) (line : List ℕ) (c : Command) (o : Outcome) → Step s line o → IsCommandLine line c → o.refused ≡ false
    → IsMadeBy s c o
line_made s line c o step is free = by step.reading step.reads step.comes
  where
    done : (x : Option Refusal) (reply : Reply) → MatchOption x (IsMade s c reply o.after) (λ r. (reply ≡ Refused r) × (o.after ≡ s))
        → is_refusal reply ≡ false → IsMade s c reply o.after
    done None reply a f = a
    done (Some r) reply a f = let no : true ≡ false = sym (ap is_refusal a.0) ∙ f in absurd cc

    by : (r : Reading) → ReadsAs line r → ComesOf s r o → IsMadeBy s c o
    by (Faulty r) reads comes = absurd (reads.0 c is)
    by (Reads d) reads comes =
        let same : d ≡ c = one_command line d c reads is in
        let k = subst (λ (e : Command). ComesOf s (Reads e) o) same comes in
        record { reply = k.0; told = sym k.3 ∙ free; text = k.2; made = done (barred s c) k.0 k.1 (sym k.3 ∙ free) }

pub made_version : (s : State) (line name : List ℕ) (o : Outcome) → Step s line o → IsCommandLine line (Version name) → o.refused ≡ false
    → IsCreated name (tree_of s) (tree_of o.after)
made_version s line name o step is free = (line_made s line (Version name) o step is free).made.1.tree

pub gone_version : (s : State) (line name : List ℕ) (o : Outcome) → Step s line o → IsCommandLine line (In name) → o.refused ≡ false
    → IsGone name (tree_of s) (tree_of o.after)
gone_version s line name o step is free = (line_made s line (In name) o step is free).made.1.tree

pub merged_version : (s : State) (line name : List ℕ) (o : Outcome) → Step s line o → IsCommandLine line (Reconcile name)
    → o.refused ≡ false
    → (n : ℕ) × (hs : List ℕ) × IsMergedByName name n hs (tree_of s) (tree_of o.after) × (o.text ≡ reply_text (Merged hs n))
merged_version s line name o step is free =
    let m = line_made s line (Reconcile name) o step is free in
    let k = m.made in
    (k.0, k.1, merged_by_name name k.0 k.1 (tree_of s) (tree_of o.after) k.3.tree, m.text ∙ ap reply_text k.2)

pub posted_version : (s : State) (line name : List ℕ) (o : Outcome) → Step s line o → IsCommandLine line (Post name) → o.refused ≡ false
    → (n : ℕ) × IsPostedByName name n (tree_of s) (tree_of o.after) × (o.text ≡ reply_text (Posted n))
posted_version s line name o step is free =
    let m = line_made s line (Post name) o step is free in
    by m.reply m.told m.text m.made
  where
    by : (r : Reply) → is_refusal r ≡ false → o.text ≡ reply_text r → IsPostAnswer name s r o.after
        → (n : ℕ) × IsPostedByName name n (tree_of s) (tree_of o.after) × (o.text ≡ reply_text (Posted n))
    by r told text (inl k) = let no : true ≡ false = sym (ap is_refusal k.2) ∙ told in absurd cc
    by r told text (inr k) = (k.0, posted_by_name name k.0 (tree_of s) (tree_of o.after) k.2.tree, text ∙ ap reply_text k.1)

-- any line that is none of versions
pub others_stand : (s : State) (line : List ℕ) (o : Outcome) → Step s line o → ((c : Command) → IsCommandLine line c → is_of_one c ≡ true)
    → o.after.aside ≡ s.aside
others_stand s line o step one = by step.reading step.reads step.comes
  where
    aside : o.after ≡ s → o.after.aside ≡ s.aside
    aside e = ap (λ (x : State). x.aside) e

    done : (c : Command) (reply : Reply) (x : Option Refusal) → is_of_one c ≡ true
        → MatchOption x (IsMade s c reply o.after) (λ r. (reply ≡ Refused r) × (o.after ≡ s)) → o.after.aside ≡ s.aside
    done c reply None e a = (desk_made s o.after c reply e a).1
    done c reply (Some r) e a = aside a.1

    by : (r : Reading) → ReadsAs line r → ComesOf s r o → o.after.aside ≡ s.aside
    by (Faulty r) reads comes = aside comes.0
    by (Reads c) reads comes = done c comes.0 (barred s c) (one c reads) comes.1
