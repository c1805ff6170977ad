-- The run over the lines of a made town's script, and the words that ask for it.
use Rattle.std.proofs.Common.{ℕ, ◌≡◌, Bool, true, false, ◌||◌, List, [], ◌∷◌, ◌++◌, refl, sym, ◌∙◌, ap, subst, length, inl, inr}
use Rattle.std.specs.Prelude.{sum}
use Rattle.std.specs.Io.KnownBytes.{Appends}
use Rattle.text_terms.specs.Lines.{lines_of}
use Rattle.topology_terms.specs.Counts.{raised}
use Rattle.outside_terms.specs.Reads.{Passage}
use Rattle.outside_terms.specs.Statuses.{code_of}
use Rattle.outside_terms.specs.declared.status.Status.{Status}
use Rattle.outside_terms.specs.declared.status.Status.TheVariants as status
use Rattle.reply_text.specs.declared.reply.Reply.{Reply}
use Rattle.reply_text.specs.Replies.{said_of}
use Rattle.script_terms.specs.State.{State, empty_state}
use Rattle.script_terms.specs.Run.{Outcome, Run, last_state, is_refusal, IsPrefix}
use Rattle.script_terms.proofs.Runs.{run_keeps, empty_keeps}
use Rattle.script_terms.proofs.Starts.{empty_sound, empty_settled}
use Rattle.script_text.proofs.Numbers.{one_number}
use Rattle.town_terms.specs.Ends.{IsJudgedBy, AreJudged, IsTownRun, WritesSummary, WritesSomeSummary, EndsAsTown, IsTownComplete, listings}
use Rattle.town_terms.specs.Request.{IsTownRequest}
use Rattle.town_terms.specs.Summary.{TownCounts, summary_text}
use Rattle.town_terms.specs.Town.{town_text}
use Rattle.topo_run.specs.Told.{Keeps, IsReplyTo, IsTold, judged_in}
use Rattle.topo_run.proofs.Runs.{course_begins, course_goes_on, course_ends, empty_ordered}

-- ---- one line more
judged_snoc : (m : ℕ) (s : State) (lines : List (List ℕ)) (os : List Outcome) (n : ℕ) (line : List ℕ) (o : Outcome) (j : ℕ)
    → AreJudged m s lines os n → IsJudgedBy (last_state s os) line j → AreJudged m s (lines ++ line ∷ []) (os ++ o ∷ []) (raised n j)
judged_snoc m s [] [] n line o j e h = (j, h, ap (λ k. raised k j) e)
judged_snoc m s [] (p ∷ os) n line o j e h = absurd e
judged_snoc m s (l ∷ lines) [] n line o j e h = absurd e
judged_snoc m s (l ∷ lines) (p ∷ os) n line o j e h = (e.0, e.1, judged_snoc (raised m e.0) p.after lines os n line o j e.2 h)

pub told_begins : (start now : State) (all : List (List ℕ)) → now ≡ start → Keeps now now → IsTold start all all now 0 false
told_begins start now all is keeps =
    let there : Keeps start start = subst (λ (s : State). Keeps s s) is keeps in
    subst (λ (s : State). IsTold start all all s 0 false) (sym is) (record { course = course_begins start all there; judged = refl })

pub told_more : {start now next : State} {all lines : List (List ℕ)} {line : List ℕ} {rest : List (List ℕ)} {judged more : ℕ}
    {refused bad : Bool} (r : Reply) → IsTold start all lines now judged refused → lines ≡ line ∷ rest → IsReplyTo now line r next
    → more ≡ raised judged (judged_in r) → bad ≡ (refused || is_refusal (said_of next.project r)) → IsTold start all rest next more bad
told_more {start} {now} {next} {all} {lines} {line} {rest} {judged} {more} {refused} {bad} r told is answered counted marked =
    let t : IsTold start all (line ∷ rest) now judged refused = subst (λ ls. IsTold start all ls now judged refused) is told in
    let by : IsJudgedBy (last_state start t.course.outcomes) line (judged_in r) = rw t.course.last answered.judged in
    let grown : IsTold start all rest next (raised judged (judged_in r)) (refused || is_refusal (said_of next.project r)) = record {
      course = course_goes_on t.course answered.step answered.keeps;
      judged = judged_snoc 0 start t.course.done t.course.outcomes judged line _ (judged_in r) t.judged by;
    } in
    rw (counted, marked) grown

pub told_ends : {start now : State} {all lines : List (List ℕ)} {judged : ℕ} {refused : Bool} → IsTold start all lines now judged refused
    → lines ≡ [] → IsTold start all [] now judged refused
told_ends {start} {now} {all} {lines} {judged} {refused} told none = subst (λ ls. IsTold start all ls now judged refused) none told

-- ---- all lines
pub summed : (seed n : ℕ) (c : TownCounts) (now : State) (refused : Bool)
    → IsTold empty_state (lines_of true (town_text seed n)) [] now c.judged refused
    → c.features ≡ length now.project.features → c.errors ≡ length now.project.entries → c.dirty ≡ length now.project.dirt
    → c.text ≡ sum (listings now.project) → IsTownRun seed n c refused
summed seed n c now refused told features errors dirty text =
    let all = lines_of true (town_text seed n) in
    let is : all ≡ told.course.done = course_ends told.course refl in
    let run : Run empty_state all told.course.outcomes = subst (λ (ls : List (List ℕ)). Run empty_state ls told.course.outcomes) (sym is)
    told.course.run in
    record {
      outcomes = told.course.outcomes;
      run = run;
      any = told.course.any;
      invariant = told.course.invariant (empty_sound, tt) (empty_settled, tt);
      keeping = run_keeps empty_state all told.course.outcomes empty_keeps empty_ordered run;
      features = rw told.course.last features;
      judged = subst (λ (ls : List (List ℕ)). AreJudged 0 empty_state ls told.course.outcomes c.judged) (sym is) told.judged;
      errors = rw told.course.last errors;
      dirty = rw told.course.last dirty;
      text = rw told.course.last text;
    }

-- ---- the summary
pub whole_summary : {seed n : ℕ} {k : Passage} {c : TownCounts} {refused is : Bool} {text bytes : List ℕ} → IsTownRun seed n c refused
    → refused ≡ is → text ≡ summary_text c → bytes ≡ text → Appends k.old k.new bytes → WritesSummary seed n k is
whole_summary {seed} {n} {k} {c} {refused} {is} {text} {bytes} run told made same written = record {
  counts = c;
  run = subst (λ (b : Bool). IsTownRun seed n c b) told run;
  written = subst (λ (t : List ℕ). Appends k.old k.new t) (same ∙ made) written;
}

pub some_summary : {seed n : ℕ} {k : Passage} {c : TownCounts} {refused : Bool} {text bytes : List ℕ} → IsTownRun seed n c refused
    → text ≡ summary_text c → bytes ≡ text → (front : List ℕ) × IsPrefix front bytes × Appends k.old k.new front
    → WritesSomeSummary seed n k
some_summary {seed} {n} {k} {c} {refused} {text} {bytes} run made same part = record {
  counts = c;
  refused = refused;
  run = run;
  text = part.0;
  is_prefix = subst (λ (t : List ℕ). IsPrefix part.0 t) (same ∙ made) part.1;
  written = part.2;
}

pub ruleset summaries = (whole_summary, some_summary)

-- ---- the words
pub one_request : (words : List (List ℕ)) (seed n other m : ℕ) → IsTownRequest words seed n → IsTownRequest words other m
    → (seed ≡ other) × (n ≡ m)
one_request words seed n other m h k =
    let e : h.seed_word ≡ k.seed_word = (let s = sym h.spelled ∙ k.spelled in cc) in
    let f : h.rows_word ≡ k.rows_word = (let s = sym h.spelled ∙ k.spelled in cc) in (
      one_number k.seed_word 0 18446744073709551615 seed other (rw e at h.says_seed) k.says_seed,
      one_number k.rows_word 1 60 n m (rw f at h.says_rows) k.says_rows,
    )

pub town_completes : (seed n : ℕ) (k : Passage) (s : Status) → EndsAsTown seed n k s → IsTownComplete seed n k (code_of s)
town_completes seed n k status.Done h = λ quiet. inl (refl, h)
town_completes seed n k status.Refused h = λ quiet. inr (inl (refl, h))
town_completes seed n k status.Usage h = absurd h
town_completes seed n k status.WrongText h = absurd h
town_completes seed n k status.OpenFault h = absurd h
town_completes seed n k status.SaveFault h = absurd h
town_completes seed n k status.Unsound h = absurd h
town_completes seed n k status.NoProject h = absurd h
town_completes seed n k status.ReadFault h = absurd h
town_completes seed n k status.WriteFault h = λ quiet. absurd (quiet h.0)
town_completes seed n k status.NoMemory h = λ quiet. inr (inr refl)
town_completes seed n k status.TooLong h = absurd h

-- the words ask for one town alone, and what is said of it is said of the one that they ask for
pub town_asked : (words : List (List ℕ)) (seed n other m : ℕ) (k : Passage) (s : Status) → IsTownRequest words seed n
    → IsTownRequest words other m → EndsAsTown other m k s → EndsAsTown seed n k s
town_asked words seed n other m k s asked made ends =
    let one = one_request words seed n other m asked made in
    rw (one.0, one.1) ends
