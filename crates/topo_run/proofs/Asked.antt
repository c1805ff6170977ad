-- What is asked for ends as its words say.
use Rattle.std.proofs.Common.{ℕ, ◌≡◌, ◌≢◌, List, [], ◌∷◌, ap, subst, length, get_or, arith}
use Rattle.std.specs.Prelude.{codes}
use Rattle.outside_terms.specs.Reads.{Passage}
use Rattle.outside_terms.specs.Shelves.{Visit}
use Rattle.outside_terms.specs.declared.status.Status.{Status}
use Rattle.outside_terms.specs.Statuses.{code_of}
use Rattle.script_terms.specs.Ends.{EndsAs, EndsAsUsage, IsComplete}
use Rattle.opening_terms.specs.Words.{IsReplayOf, IsReplayTo, IsCheckOf, IsReportOf}
use Rattle.opening_terms.specs.Checking.{EndsAsCheck, IsCheckComplete}
use Rattle.opening_terms.specs.Reporting.{EndsAsReport, IsReportComplete}
use Rattle.opening_terms.specs.Replaying.{EndsAsReplayOf, IsReplayOfComplete}
use Rattle.opening_terms.specs.Saving.{EndsAsReplayTo, IsReplayToComplete}
use Rattle.town_terms.specs.Ends.{EndsAsTown, IsTownComplete}
use Rattle.town_terms.specs.Request.{IsTownRequest}
use Rattle.topo_run.specs.declared.words.Words.{Words}
use Rattle.topo_run.specs.declared.words.Words.TheVariants as words
use Rattle.topo_run.specs.Asked.{AsksFor, IsAskedBy, IsFit, EndsFor, EndsAsAsked, UnlessReplay, UnlessNamed, UnlessSaved}
use Rattle.opening_terms.specs.Opening.{IsOpeningComplete}
use Rattle.topo_run.proofs.Endings.{completes}
use Rattle.topo_run.proofs.Towns.{town_asked, town_completes}
use Rattle.topo_run.proofs.Opened.{check_completes, check_opening, report_completes, report_opening}
use Rattle.topo_run.proofs.Shelved.{replay_of_completes, replay_of_opening, replay_to_completes, replay_to_opening}

-- ---- words of different lengths, and those of different first words

one_two : {A : Type 0} {ws : List A} {a b c : A} → ws ≡ a ∷ [] → ws ≡ b ∷ c ∷ [] → ⊥
one_two e f = cc

one_three : {A : Type 0} {ws : List A} {a b c d : A} → ws ≡ a ∷ [] → ws ≡ b ∷ c ∷ d ∷ [] → ⊥
one_three e f = cc

two_three : {A : Type 0} {ws : List A} {a b c d e : A} → ws ≡ a ∷ b ∷ [] → ws ≡ c ∷ d ∷ e ∷ [] → ⊥
two_three e f = cc

second : {A : Type 0} {ws : List A} {a b c : A} → ws ≡ a ∷ b ∷ [] → ws ≡ a ∷ c ∷ [] → b ≡ c
second e f = cc

-- the second and the third of three
later : {A : Type 0} {ws : List A} {a b c d e : A} → ws ≡ a ∷ b ∷ c ∷ [] → ws ≡ a ∷ d ∷ e ∷ [] → (b ≡ d) × (c ≡ e)
later e f = (cc, cc)

first_two : {ws : List (List ℕ)} {a b c d : List ℕ} → ws ≡ a ∷ b ∷ [] → ws ≡ c ∷ d ∷ [] → a ≡ c
first_two e f = cc

first_three : {ws : List (List ℕ)} {a b c d e g : List ℕ} → ws ≡ a ∷ b ∷ c ∷ [] → ws ≡ d ∷ e ∷ g ∷ [] → a ≡ d
first_three e f = cc

-- `check` has other letters than `report` and `replay` have, and so has `town`
check_report : {ws : List (List ℕ)} {a b : List ℕ} → ws ≡ codes "check" ∷ a ∷ [] → ws ≡ codes "report" ∷ b ∷ [] → ⊥
check_report e f = absurd (omega (arith, ap (length {A = ℕ}) (first_two e f)))

check_replay : {ws : List (List ℕ)} {a b : List ℕ} → ws ≡ codes "check" ∷ a ∷ [] → ws ≡ codes "replay" ∷ b ∷ [] → ⊥
check_replay e f = absurd (omega (arith, ap (length {A = ℕ}) (first_two e f)))

report_replay : {ws : List (List ℕ)} {a b : List ℕ} → ws ≡ codes "report" ∷ a ∷ [] → ws ≡ codes "replay" ∷ b ∷ [] → ⊥
report_replay e f = absurd (omega (arith, ap (λ (xs : List ℕ). get_or xs 3 0) (first_two e f)))

town_replay : {ws : List (List ℕ)} {a b c d : List ℕ} → ws ≡ codes "town" ∷ a ∷ b ∷ [] → ws ≡ codes "replay" ∷ c ∷ d ∷ [] → ⊥
town_replay e f = absurd (omega (arith, ap (length {A = ℕ}) (first_three e f)))

-- ---- what is asked for
fits : (ws : List (List ℕ)) (w : Words) → AsksFor ws w → IsFit w
fits ws words.Replay asks = tt
fits ws (words.ReplayOf a) asks = tt
fits ws (words.ReplayTo a b) asks = tt
fits ws (words.Check a) asks = tt
fits ws (words.Report a) asks = tt
fits ws (words.Town r) asks = (asks.says_rows.at_least, asks.says_rows.at_most)
fits ws words.Unknown asks = tt

replay_ends : (ws : List (List ℕ)) (w : Words) (s : Passage) (h : Visit) (k : Passage) (t : Status) → AsksFor ws w
    → EndsFor w s h k t → ws ≡ codes "replay" ∷ [] → EndsAs s k t
replay_ends ws words.Replay s h k t asks ends is = ends
replay_ends ws (words.ReplayOf a) s h k t asks ends is = absurd (one_two is asks.spelled)
replay_ends ws (words.ReplayTo a b) s h k t asks ends is = absurd (one_three is asks.spelled)
replay_ends ws (words.Check a) s h k t asks ends is = absurd (one_two is asks.spelled)
replay_ends ws (words.Report a) s h k t asks ends is = absurd (one_two is asks.spelled)
replay_ends ws (words.Town r) s h k t asks ends is = absurd (one_three is asks.spelled)
replay_ends ws words.Unknown s h k t asks ends is = absurd (asks.replay is)

replay_of_ends : (ws : List (List ℕ)) (w : Words) (s : Passage) (h : Visit) (k : Passage) (t : Status) (project : List ℕ) → AsksFor ws w
    → EndsFor w s h k t → IsReplayOf ws project → EndsAsReplayOf project s h k t
replay_of_ends ws words.Replay s h k t project asks ends is = absurd (one_two asks is.spelled)
replay_of_ends ws (words.ReplayOf a) s h k t project asks ends is =
    subst (λ (n : List ℕ). EndsAsReplayOf n s h k t) (second asks.spelled is.spelled) ends
replay_of_ends ws (words.ReplayTo a b) s h k t project asks ends is = absurd (two_three is.spelled asks.spelled)
replay_of_ends ws (words.Check a) s h k t project asks ends is = absurd (check_replay asks.spelled is.spelled)
replay_of_ends ws (words.Report a) s h k t project asks ends is = absurd (report_replay asks.spelled is.spelled)
replay_of_ends ws (words.Town r) s h k t project asks ends is = absurd (two_three is.spelled asks.spelled)
replay_of_ends ws words.Unknown s h k t project asks ends is = absurd (asks.replay_of project is)

replay_to_ends : (ws : List (List ℕ)) (w : Words) (s : Passage) (h : Visit) (k : Passage) (t : Status) (project target : List ℕ) → AsksFor ws w
    → EndsFor w s h k t → IsReplayTo ws project target → EndsAsReplayTo project target s h k t
replay_to_ends ws words.Replay s h k t project target asks ends is = absurd (one_three asks is.spelled)
replay_to_ends ws (words.ReplayOf a) s h k t project target asks ends is = absurd (two_three asks.spelled is.spelled)
replay_to_ends ws (words.ReplayTo a b) s h k t project target asks ends is =
    let same = later asks.spelled is.spelled in
    subst (λ (n : List ℕ). EndsAsReplayTo project n s h k t) same.1 (subst (λ (n : List ℕ). EndsAsReplayTo n b.now s h k t) same.0 ends)
replay_to_ends ws (words.Check a) s h k t project target asks ends is = absurd (two_three asks.spelled is.spelled)
replay_to_ends ws (words.Report a) s h k t project target asks ends is = absurd (two_three asks.spelled is.spelled)
replay_to_ends ws (words.Town r) s h k t project target asks ends is = absurd (town_replay asks.spelled is.spelled)
replay_to_ends ws words.Unknown s h k t project target asks ends is = absurd (asks.replay_to project target is)

check_ends : (ws : List (List ℕ)) (w : Words) (s : Passage) (h : Visit) (k : Passage) (t : Status) (project : List ℕ) → AsksFor ws w
    → EndsFor w s h k t → IsCheckOf ws project → EndsAsCheck project h k t
check_ends ws words.Replay s h k t project asks ends is = absurd (one_two asks is.spelled)
check_ends ws (words.ReplayOf a) s h k t project asks ends is = absurd (check_replay is.spelled asks.spelled)
check_ends ws (words.ReplayTo a b) s h k t project asks ends is = absurd (two_three is.spelled asks.spelled)
check_ends ws (words.Check a) s h k t project asks ends is =
    subst (λ (n : List ℕ). EndsAsCheck n h k t) (second asks.spelled is.spelled) ends
check_ends ws (words.Report a) s h k t project asks ends is = absurd (check_report is.spelled asks.spelled)
check_ends ws (words.Town r) s h k t project asks ends is = absurd (two_three is.spelled asks.spelled)
check_ends ws words.Unknown s h k t project asks ends is = absurd (asks.check project is)

report_ends : (ws : List (List ℕ)) (w : Words) (s : Passage) (h : Visit) (k : Passage) (t : Status) (project : List ℕ) → AsksFor ws w
    → EndsFor w s h k t → IsReportOf ws project → EndsAsReport project h k t
report_ends ws words.Replay s h k t project asks ends is = absurd (one_two asks is.spelled)
report_ends ws (words.ReplayOf a) s h k t project asks ends is = absurd (report_replay is.spelled asks.spelled)
report_ends ws (words.ReplayTo a b) s h k t project asks ends is = absurd (two_three is.spelled asks.spelled)
report_ends ws (words.Check a) s h k t project asks ends is = absurd (check_report asks.spelled is.spelled)
report_ends ws (words.Report a) s h k t project asks ends is =
    subst (λ (n : List ℕ). EndsAsReport n h k t) (second asks.spelled is.spelled) ends
report_ends ws (words.Town r) s h k t project asks ends is = absurd (two_three is.spelled asks.spelled)
report_ends ws words.Unknown s h k t project asks ends is = absurd (asks.report project is)

town_ends : (ws : List (List ℕ)) (w : Words) (s : Passage) (h : Visit) (k : Passage) (t : Status) (seed n : ℕ) → AsksFor ws w
    → EndsFor w s h k t → IsTownRequest ws seed n → EndsAsTown seed n k t
town_ends ws words.Replay s h k t seed n asks ends is = absurd (one_three asks is.spelled)
town_ends ws (words.ReplayOf a) s h k t seed n asks ends is = absurd (two_three asks.spelled is.spelled)
town_ends ws (words.ReplayTo a b) s h k t seed n asks ends is = absurd (town_replay is.spelled asks.spelled)
town_ends ws (words.Check a) s h k t seed n asks ends is = absurd (two_three asks.spelled is.spelled)
town_ends ws (words.Report a) s h k t seed n asks ends is = absurd (two_three asks.spelled is.spelled)
town_ends ws (words.Town r) s h k t seed n asks ends is = town_asked ws seed n r.seed r.rows k t is asks ends
town_ends ws words.Unknown s h k t seed n asks ends is = absurd (asks.town seed n is)

usage_ends : (ws : List (List ℕ)) (w : Words) (s : Passage) (h : Visit) (k : Passage) (t : Status) → AsksFor ws w → EndsFor w s h k t
    → ¬ (ws ≡ codes "replay" ∷ [])
    → ((project : List ℕ) → ¬ (IsReplayOf ws project))
    → ((project target : List ℕ) → ¬ (IsReplayTo ws project target))
    → ((project : List ℕ) → ¬ (IsCheckOf ws project))
    → ((project : List ℕ) → ¬ (IsReportOf ws project))
    → ((seed n : ℕ) → ¬ (IsTownRequest ws seed n)) → EndsAsUsage k t
usage_ends ws words.Replay s h k t asks p replay of to check report town = absurd (replay asks)
usage_ends ws (words.ReplayOf a) s h k t asks p replay of to check report town = absurd (of a.now asks)
usage_ends ws (words.ReplayTo a b) s h k t asks p replay of to check report town = absurd (to a.now b.now asks)
usage_ends ws (words.Check a) s h k t asks p replay of to check report town = absurd (check a.now asks)
usage_ends ws (words.Report a) s h k t asks p replay of to check report town = absurd (report a.now asks)
usage_ends ws (words.Town r) s h k t asks p replay of to check report town = absurd (town r.seed r.rows asks)
usage_ends ws words.Unknown s h k t asks p replay of to check report town = p

-- ---- what is left alone

unread : {P : Type 0} (ws : List (List ℕ)) (w : Words) → AsksFor ws w → UnlessReplay w P
    → ¬ (ws ≡ codes "replay" ∷ [])
    → ((project : List ℕ) → ¬ (IsReplayOf ws project))
    → ((project target : List ℕ) → ¬ (IsReplayTo ws project target)) → P
unread ws words.Replay asks p replay of to = absurd (replay asks)
unread ws (words.ReplayOf a) asks p replay of to = absurd (of a.now asks)
unread ws (words.ReplayTo a b) asks p replay of to = absurd (to a.now b.now asks)
unread ws (words.Check a) asks p replay of to = p
unread ws (words.Report a) asks p replay of to = p
unread ws (words.Town r) asks p replay of to = p
unread ws words.Unknown asks p replay of to = p

untouched : {P : Type 0} (ws : List (List ℕ)) (w : Words) → AsksFor ws w → UnlessNamed w P
    → ((project : List ℕ) → ¬ (IsReplayOf ws project))
    → ((project target : List ℕ) → ¬ (IsReplayTo ws project target))
    → ((project : List ℕ) → ¬ (IsCheckOf ws project))
    → ((project : List ℕ) → ¬ (IsReportOf ws project)) → P
untouched ws words.Replay asks p of to check report = p
untouched ws (words.ReplayOf a) asks p of to check report = absurd (of a.now asks)
untouched ws (words.ReplayTo a b) asks p of to check report = absurd (to a.now b.now asks)
untouched ws (words.Check a) asks p of to check report = absurd (check a.now asks)
untouched ws (words.Report a) asks p of to check report = absurd (report a.now asks)
untouched ws (words.Town r) asks p of to check report = p
untouched ws words.Unknown asks p of to check report = p

unsaved : {P : Type 0} (ws : List (List ℕ)) (w : Words) → AsksFor ws w → UnlessSaved w P
    → ((project target : List ℕ) → ¬ (IsReplayTo ws project target)) → P
unsaved ws words.Replay asks p to = p
unsaved ws (words.ReplayOf a) asks p to = p
unsaved ws (words.ReplayTo a b) asks p to = absurd (to a.now b.now asks)
unsaved ws (words.Check a) asks p to = p
unsaved ws (words.Report a) asks p to = p
unsaved ws (words.Town r) asks p to = p
unsaved ws words.Unknown asks p to = p

-- ---- what a run is that was asked for by these words
pub record Ran (ws : List (List ℕ)) (s : Passage) (h : Visit) (k : Passage) (code : ℕ) : Type 0 where
  pub words : Words
  pub asks : AsksFor ws words
  pub status : Status
  pub ends : EndsFor words s h k status
  pub is : code ≡ code_of status

pub ran : {ws : List (List ℕ)} {w : Words} {s : Passage} {h : Visit} {k : Passage} {t : Status} {code : ℕ} → IsAskedBy ws w
    → EndsAsAsked w s h k t → code ≡ code_of t → Ran ws s h k code
ran {ws} {w} {s} {h} {k} {t} {code} asked ended is = record { words = w; asks = asked.asks; status = t; ends = ended.ends; is = is }

pub asks_fit : {ws : List (List ℕ)} {w : Words} → IsAskedBy ws w → IsFit w
asks_fit {ws} {w} asked = fits ws w asked.asks

pub replay_ran : {ws : List (List ℕ)} {s : Passage} {h : Visit} {k : Passage} {code : ℕ} → Ran ws s h k code
    → ws ≡ codes "replay" ∷ [] → (t : Status) × (code ≡ code_of t) × EndsAs s k t
replay_ran {ws} {s} {h} {k} {code} r is = (r.status, r.is, replay_ends ws r.words s h k r.status r.asks r.ends is)

pub replay_completes : {ws : List (List ℕ)} {s : Passage} {h : Visit} {k : Passage} {code : ℕ} → Ran ws s h k code
    → ws ≡ codes "replay" ∷ [] → IsComplete s k code
replay_completes {ws} {s} {h} {k} {code} r is = rw r.is (completes s k r.status (replay_ends ws r.words s h k r.status r.asks r.ends is))

pub replay_of_ran : {ws : List (List ℕ)} {s : Passage} {h : Visit} {k : Passage} {code : ℕ} → Ran ws s h k code → (p : List ℕ)
    → IsReplayOf ws p → (t : Status) × (code ≡ code_of t) × EndsAsReplayOf p s h k t
replay_of_ran {ws} {s} {h} {k} {code} r p is = (r.status, r.is, replay_of_ends ws r.words s h k r.status p r.asks r.ends is)

pub replay_of_whole : {ws : List (List ℕ)} {s : Passage} {h : Visit} {k : Passage} {code : ℕ} → Ran ws s h k code → (p : List ℕ)
    → IsReplayOf ws p → IsReplayOfComplete p s h k code
replay_of_whole {ws} {s} {h} {k} {code} r p is = rw r.is (replay_of_completes p s h k r.status (replay_of_ends ws r.words s h k r.status p r.asks r.ends is))

pub replay_of_opens : {ws : List (List ℕ)} {s : Passage} {h : Visit} {k : Passage} {code : ℕ} → Ran ws s h k code → (p : List ℕ)
    → IsReplayOf ws p → p ≢ codes "-" → IsOpeningComplete p h k code
replay_of_opens {ws} {s} {h} {k} {code} r p is other = rw r.is (replay_of_opening p s h k r.status (replay_of_ends ws r.words s h k r.status p r.asks r.ends is) other)

pub replay_to_ran : {ws : List (List ℕ)} {s : Passage} {h : Visit} {k : Passage} {code : ℕ} → Ran ws s h k code → (p q : List ℕ)
    → IsReplayTo ws p q → (t : Status) × (code ≡ code_of t) × EndsAsReplayTo p q s h k t
replay_to_ran {ws} {s} {h} {k} {code} r p q is = (r.status, r.is, replay_to_ends ws r.words s h k r.status p q r.asks r.ends is)

pub replay_to_whole : {ws : List (List ℕ)} {s : Passage} {h : Visit} {k : Passage} {code : ℕ} → Ran ws s h k code → (p q : List ℕ)
    → IsReplayTo ws p q → IsReplayToComplete p q s h k code
replay_to_whole {ws} {s} {h} {k} {code} r p q is = rw r.is (replay_to_completes p q s h k r.status (replay_to_ends ws r.words s h k r.status p q r.asks r.ends is))

pub replay_to_opens : {ws : List (List ℕ)} {s : Passage} {h : Visit} {k : Passage} {code : ℕ} → Ran ws s h k code → (p q : List ℕ)
    → IsReplayTo ws p q → p ≢ codes "-" → IsOpeningComplete p h k code
replay_to_opens {ws} {s} {h} {k} {code} r p q is other = rw r.is (replay_to_opening p q s h k r.status (replay_to_ends ws r.words s h k r.status p q r.asks r.ends is) other)

pub check_ran : {ws : List (List ℕ)} {s : Passage} {h : Visit} {k : Passage} {code : ℕ} → Ran ws s h k code → (p : List ℕ)
    → IsCheckOf ws p → (t : Status) × (code ≡ code_of t) × EndsAsCheck p h k t
check_ran {ws} {s} {h} {k} {code} r p is = (r.status, r.is, check_ends ws r.words s h k r.status p r.asks r.ends is)

pub check_whole : {ws : List (List ℕ)} {s : Passage} {h : Visit} {k : Passage} {code : ℕ} → Ran ws s h k code → (p : List ℕ)
    → IsCheckOf ws p → IsCheckComplete p h k code
check_whole {ws} {s} {h} {k} {code} r p is = rw r.is (check_completes p h k r.status (check_ends ws r.words s h k r.status p r.asks r.ends is))

pub check_opens : {ws : List (List ℕ)} {s : Passage} {h : Visit} {k : Passage} {code : ℕ} → Ran ws s h k code → (p : List ℕ)
    → IsCheckOf ws p → IsOpeningComplete p h k code
check_opens {ws} {s} {h} {k} {code} r p is = rw r.is (check_opening p h k r.status (check_ends ws r.words s h k r.status p r.asks r.ends is))

pub report_ran : {ws : List (List ℕ)} {s : Passage} {h : Visit} {k : Passage} {code : ℕ} → Ran ws s h k code → (p : List ℕ)
    → IsReportOf ws p → (t : Status) × (code ≡ code_of t) × EndsAsReport p h k t
report_ran {ws} {s} {h} {k} {code} r p is = (r.status, r.is, report_ends ws r.words s h k r.status p r.asks r.ends is)

pub report_whole : {ws : List (List ℕ)} {s : Passage} {h : Visit} {k : Passage} {code : ℕ} → Ran ws s h k code → (p : List ℕ)
    → IsReportOf ws p → IsReportComplete p h k code
report_whole {ws} {s} {h} {k} {code} r p is = rw r.is (report_completes p h k r.status (report_ends ws r.words s h k r.status p r.asks r.ends is))

pub report_opens : {ws : List (List ℕ)} {s : Passage} {h : Visit} {k : Passage} {code : ℕ} → Ran ws s h k code → (p : List ℕ)
    → IsReportOf ws p → IsOpeningComplete p h k code
report_opens {ws} {s} {h} {k} {code} r p is = rw r.is (report_opening p h k r.status (report_ends ws r.words s h k r.status p r.asks r.ends is))

pub town_ran : {ws : List (List ℕ)} {s : Passage} {h : Visit} {k : Passage} {code : ℕ} → Ran ws s h k code → (seed n : ℕ)
    → IsTownRequest ws seed n → (t : Status) × (code ≡ code_of t) × EndsAsTown seed n k t
town_ran {ws} {s} {h} {k} {code} r seed n is = (r.status, r.is, town_ends ws r.words s h k r.status seed n r.asks r.ends is)

pub town_whole : {ws : List (List ℕ)} {s : Passage} {h : Visit} {k : Passage} {code : ℕ} → Ran ws s h k code → (seed n : ℕ)
    → IsTownRequest ws seed n → IsTownComplete seed n k code
town_whole {ws} {s} {h} {k} {code} r seed n is = rw r.is (town_completes seed n k r.status (town_ends ws r.words s h k r.status seed n r.asks r.ends is))

pub usage_ran : {ws : List (List ℕ)} {s : Passage} {h : Visit} {k : Passage} {code : ℕ} → Ran ws s h k code
    → ¬ (ws ≡ codes "replay" ∷ [])
    → ((project : List ℕ) → ¬ (IsReplayOf ws project))
    → ((project target : List ℕ) → ¬ (IsReplayTo ws project target))
    → ((project : List ℕ) → ¬ (IsCheckOf ws project))
    → ((project : List ℕ) → ¬ (IsReportOf ws project))
    → ((seed n : ℕ) → ¬ (IsTownRequest ws seed n)) → (t : Status) × (code ≡ code_of t) × EndsAsUsage k t
usage_ran {ws} {s} {h} {k} {code} r replay of to check report town =
    (r.status, r.is, usage_ends ws r.words s h k r.status r.asks r.ends replay of to check report town)

pub asked_unread : {P : Type 0} {ws : List (List ℕ)} {w : Words} → IsAskedBy ws w → UnlessReplay w P
    → ¬ (ws ≡ codes "replay" ∷ [])
    → ((project : List ℕ) → ¬ (IsReplayOf ws project))
    → ((project target : List ℕ) → ¬ (IsReplayTo ws project target)) → P
asked_unread {P} {ws} {w} asked p replay of to = unread ws w asked.asks p replay of to

pub asked_untouched : {P : Type 0} {ws : List (List ℕ)} {w : Words} → IsAskedBy ws w → UnlessNamed w P
    → ((project : List ℕ) → ¬ (IsReplayOf ws project))
    → ((project target : List ℕ) → ¬ (IsReplayTo ws project target))
    → ((project : List ℕ) → ¬ (IsCheckOf ws project))
    → ((project : List ℕ) → ¬ (IsReportOf ws project)) → P
asked_untouched {P} {ws} {w} asked p of to check report = untouched ws w asked.asks p of to check report

pub asked_unsaved : {P : Type 0} {ws : List (List ℕ)} {w : Words} → IsAskedBy ws w → UnlessSaved w P
    → ((project target : List ℕ) → ¬ (IsReplayTo ws project target)) → P
asked_unsaved {P} {ws} {w} asked p to = unsaved ws w asked.asks p to
