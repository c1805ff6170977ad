-- What a shelf tells of a name is one thing; and what is sure where nothing fails.
use Rattle.std.proofs.Common.{ℕ, ◌≡◌, ◌⊎◌, List, Option, None, Some, inl, inr, refl, subst}
use Rattle.std.specs.Io.KnownBytes.{Appends}
use Rattle.topology_terms.specs.Poster.{poster}
use Rattle.topology_terms.specs.Project.{Project}
use Rattle.topology_terms.specs.Sound.{IsSound}
use Rattle.project_terms.specs.declared.project_cause.ProjectCause.{ProjectCause}
use Rattle.project_terms.specs.Texts.{IsRead, IsFault}
use Rattle.project_text.proofs.OneText.{one_project, no_project, one_fault}
use Rattle.outside_terms.specs.Faults.{Rose}
use Rattle.outside_terms.specs.Reads.{Passage}
use Rattle.outside_terms.specs.Shelves.{Held, Gives, Visit}
use Rattle.outside_terms.specs.Statuses.{code_of}
use Rattle.outside_terms.specs.declared.status.Status.{Status}
use Rattle.outside_terms.specs.declared.status.Status.TheVariants as status
use Rattle.opening_terms.specs.Opening.{IsUnder, IsWrongUnder, IsToldUnder, IsToldWrong, IsToldNone, EndsUnopened, IsOpeningComplete, wrong_text}
use Rattle.opening_terms.specs.Checking.{EndsChecked, EndsAsCheck, IsCheckComplete, sound_text, unsound_text}
use Rattle.opening_terms.specs.Reporting.{EndsReported, EndsAsReport, IsReportComplete}
use Rattle.topology_terms.specs.Unsound.{IsFirstUnsound}
use Rattle.script_terms.specs.Report.{report_of}

-- ---- one thing stands under a name

same_bytes : (told given : List ℕ) (held : Option (List ℕ)) → Some given ≡ held → held ≡ Some told → given ≡ told
same_bytes told given held is there = cc

-- what a project or a wrong text under the name comes to, where the shelf tells of another
pub one_under : (held : Option Held) (name : List ℕ) (p q : Project) → IsUnder held name p → IsToldUnder held name q → p ≡ q
one_under None name p q under told = absurd told
one_under (Some held) name p q (given, gives, read) (bytes, there, says) =
    one_project bytes p q (subst (λ (t : List ℕ). IsRead t p) (same_bytes bytes given (held name) gives there) read) says

pub under_not_wrong : (held : Option Held) (name : List ℕ) (p : Project) (n : ℕ) (c : ProjectCause) → IsUnder held name p
    → IsToldWrong held name n c → ⊥
under_not_wrong None name p n c under told = told
under_not_wrong (Some held) name p n c (given, gives, read) (bytes, there, fault) =
    no_project bytes p n c (subst (λ (t : List ℕ). IsRead t p) (same_bytes bytes given (held name) gives there) read) fault

pub under_not_none : (held : Option Held) (name : List ℕ) (p : Project) → IsUnder held name p → IsToldNone held name → ⊥
under_not_none None name p under told = told
under_not_none (Some held) name p (given, gives, read) there = cc

pub wrong_not_under : (held : Option Held) (name : List ℕ) (n : ℕ) (c : ProjectCause) (p : Project) → IsWrongUnder held name n c
    → IsToldUnder held name p → ⊥
wrong_not_under None name n c p under told = told
wrong_not_under (Some held) name n c p (given, gives, fault) (bytes, there, says) =
    no_project bytes p n c says (subst (λ (t : List ℕ). IsFault t n c) (same_bytes bytes given (held name) gives there) fault)

pub wrong_not_none : (held : Option Held) (name : List ℕ) (n : ℕ) (c : ProjectCause) → IsWrongUnder held name n c → IsToldNone held name
    → ⊥
wrong_not_none None name n c under told = told
wrong_not_none (Some held) name n c (given, gives, fault) there = cc

pub one_wrong : (held : Option Held) (name : List ℕ) (m n : ℕ) (b c : ProjectCause) → IsWrongUnder held name m b → IsToldWrong held name n c
    → (m ≡ n) × (b ≡ c)
one_wrong None name m n b c under told = absurd told
one_wrong (Some held) name m n b c (given, gives, fault) (bytes, there, says) =
    one_fault bytes m n b c (subst (λ (t : List ℕ). IsFault t m b) (same_bytes bytes given (held name) gives there) fault) says

pub none_not_under : (held : Option Held) (name : List ℕ) (p : Project) → Gives held name None → IsToldUnder held name p → ⊥
none_not_under None name p none told = told
none_not_under (Some held) name p none (bytes, there, says) = cc

pub none_not_wrong : (held : Option Held) (name : List ℕ) (n : ℕ) (c : ProjectCause) → Gives held name None → IsToldWrong held name n c → ⊥
none_not_wrong None name n c none told = told
none_not_wrong (Some held) name n c none (bytes, there, says) = cc

-- ---- where nothing fails

same_line : (k : Passage) (m n : ℕ) (b c : ProjectCause) → (m ≡ n) × (b ≡ c) → Appends k.old k.new (wrong_text m b)
    → Appends k.old k.new (wrong_text n c)
same_line k m n b c one written =
    subst (λ (d : ProjectCause). Appends k.old k.new (wrong_text n d)) one.1 (subst (λ (l : ℕ). Appends k.old k.new (wrong_text l b)) one.0
    written)

-- a project was opened
pub opened_complete : (name : List ℕ) (h : Visit) (k : Passage) (code : ℕ) (p : Project) → IsUnder h.old name p
    → IsOpeningComplete name h k code
opened_complete name h k code p under = record {
  none = λ told calm. absurd (under_not_none h.old name p under told);
  wrong = λ n c told calm quiet. absurd (under_not_wrong h.old name p n c under told);
}

pub unopened_complete : (name : List ℕ) (h : Visit) (k : Passage) (s : Status) → EndsUnopened name h k s
    → IsOpeningComplete name h k (code_of s)
unopened_complete name h k status.WrongText (n, c, under, written) = record {
  none = λ told calm. absurd (wrong_not_none h.old name n c under told);
  wrong = λ m d told calm quiet. inl (refl, same_line k n m c d (one_wrong h.old name n m c d under told) written);
}
unopened_complete name h k status.OpenFault (rose, written) = record {
  none = λ told calm. absurd (calm rose);
  wrong = λ n c told calm quiet. absurd (calm rose);
}
unopened_complete name h k status.NoProject (none, written) = record {
  none = λ told calm. inl (refl, written);
  wrong = λ n c told calm quiet. absurd (none_not_wrong h.old name n c none told);
}
unopened_complete name h k status.WriteFault (rose, (n, c, under, some)) = record {
  none = λ told calm. absurd (wrong_not_none h.old name n c under told);
  wrong = λ m d told calm quiet. absurd (quiet rose);
}
unopened_complete name h k status.NoMemory ends = record { none = λ told calm. inr refl; wrong = λ n c told calm quiet. inr refl }
unopened_complete name h k status.Done ends = absurd ends
unopened_complete name h k status.Refused ends = absurd ends
unopened_complete name h k status.Usage ends = absurd ends
unopened_complete name h k status.ReadFault ends = absurd ends
unopened_complete name h k status.SaveFault ends = absurd ends
unopened_complete name h k status.Unsound ends = absurd ends
unopened_complete name h k status.TooLong ends = absurd ends

-- the shelf tells of a project, no count rises, and none was opened: then memory ran out
pub unopened_told : (name : List ℕ) (h : Visit) (k : Passage) (s : Status) (p : Project) → EndsUnopened name h k s → IsToldUnder h.old name p
    → ¬ (Rose h.before h.now) → ¬ (Rose k.before k.now) → code_of s ≡ 5
unopened_told name h k status.WrongText p (n, c, under, written) told calm quiet = absurd (wrong_not_under h.old name n c p under told)
unopened_told name h k status.OpenFault p (rose, written) told calm quiet = absurd (calm rose)
unopened_told name h k status.NoProject p (none, written) told calm quiet = absurd (none_not_under h.old name p none told)
unopened_told name h k status.WriteFault p (rose, some) told calm quiet = absurd (quiet rose)
unopened_told name h k status.NoMemory p ends told calm quiet = refl
unopened_told name h k status.Done p ends told calm quiet = absurd ends
unopened_told name h k status.Refused p ends told calm quiet = absurd ends
unopened_told name h k status.Usage p ends told calm quiet = absurd ends
unopened_told name h k status.ReadFault p ends told calm quiet = absurd ends
unopened_told name h k status.SaveFault p ends told calm quiet = absurd ends
unopened_told name h k status.Unsound p ends told calm quiet = absurd ends
unopened_told name h k status.TooLong p ends told calm quiet = absurd ends

-- ---- check

pub check_opening : (name : List ℕ) (h : Visit) (k : Passage) (s : Status) → EndsAsCheck name h k s → IsOpeningComplete name h k (code_of s)
check_opening name h k s (inl (p, under, ends)) = opened_complete name h k (code_of s) p under
check_opening name h k s (inr ends) = unopened_complete name h k s ends

checked_complete : (k : Passage) (s : Status) (p : Project) → EndsChecked p k s → ¬ (Rose k.before k.now)
    → ((code_of s ≡ 0) × IsSound p × Appends k.old k.new sound_text)
    ⊎ (((code_of s ≡ 9) × ((r a : ℕ) × IsFirstUnsound poster p r a × Appends k.old k.new (unsound_text r a))) ⊎ (code_of s ≡ 5))
checked_complete k status.Done p (sound, written) quiet = inl (refl, sound, written)
checked_complete k status.Unsound p ends quiet = inr (inl (refl, ends))
checked_complete k status.WriteFault p (rose, some) quiet = absurd (quiet rose)
checked_complete k status.NoMemory p ends quiet = inr (inr refl)
checked_complete k status.Refused p ends quiet = absurd ends
checked_complete k status.Usage p ends quiet = absurd ends
checked_complete k status.ReadFault p ends quiet = absurd ends
checked_complete k status.WrongText p ends quiet = absurd ends
checked_complete k status.OpenFault p ends quiet = absurd ends
checked_complete k status.SaveFault p ends quiet = absurd ends
checked_complete k status.TooLong p ends quiet = absurd ends
checked_complete k status.NoProject p ends quiet = absurd ends

pub check_completes : (name : List ℕ) (h : Visit) (k : Passage) (s : Status) → EndsAsCheck name h k s → IsCheckComplete name h k (code_of s)
check_completes name h k s (inl (p, under, ends)) = λ q told calm quiet.
    checked_complete k s q (subst (λ (x : Project). EndsChecked x k s) (one_under h.old name p q under told) ends) quiet
check_completes name h k s (inr ends) = λ q told calm quiet. inr (inr (unopened_told name h k s q ends told calm quiet))

-- ---- report

pub report_opening : (name : List ℕ) (h : Visit) (k : Passage) (s : Status) → EndsAsReport name h k s → IsOpeningComplete name h k (code_of s)
report_opening name h k s (inl (p, under, ends)) = opened_complete name h k (code_of s) p under
report_opening name h k s (inr ends) = unopened_complete name h k s ends

reported_complete : (k : Passage) (s : Status) (p : Project) → EndsReported p k s → ¬ (Rose k.before k.now)
    → ((code_of s ≡ 0) × Appends k.old k.new (report_of p.rules p.entries)) ⊎ (code_of s ≡ 5)
reported_complete k status.Done p written quiet = inl (refl, written)
reported_complete k status.WriteFault p (rose, some) quiet = absurd (quiet rose)
reported_complete k status.NoMemory p ends quiet = inr refl
reported_complete k status.Refused p ends quiet = absurd ends
reported_complete k status.Usage p ends quiet = absurd ends
reported_complete k status.ReadFault p ends quiet = absurd ends
reported_complete k status.WrongText p ends quiet = absurd ends
reported_complete k status.OpenFault p ends quiet = absurd ends
reported_complete k status.SaveFault p ends quiet = absurd ends
reported_complete k status.Unsound p ends quiet = absurd ends
reported_complete k status.TooLong p ends quiet = absurd ends
reported_complete k status.NoProject p ends quiet = absurd ends

pub report_completes : (name : List ℕ) (h : Visit) (k : Passage) (s : Status) → EndsAsReport name h k s
    → IsReportComplete name h k (code_of s)
report_completes name h k s (inl (p, under, ends)) = λ q told calm quiet.
    reported_complete k s q (subst (λ (x : Project). EndsReported x k s) (one_under h.old name p q under told) ends) quiet
report_completes name h k s (inr ends) = λ q told calm quiet. inr (unopened_told name h k s q ends told calm quiet)
