-- A text that was not written to its end breaks off in the reply to some line; and one run goes on from another.
use Rattle.std.proofs.Common.{ℕ, ◌≡◌, ◌<◌, ◌≤◌, Bool, true, false, ◌||◌, List, [], ◌∷◌, ◌++◌, Option, length, refl, sym, ◌∙◌, ap, subst, arith, append_assoc, length-append, inl, inr}
use Rattle.std.proofs.lemmas.Bool.{cases_lt}
use Rattle.std.specs.Io.KnownBytes.{Appends}
use Rattle.std.proofs.KnownBytes.{Appends-trans}
use Rattle.topology_terms.specs.Project.{IsOrdered}
use Rattle.script_terms.specs.Ends.{StopsInLast}
use Rattle.script_terms.specs.Headline.{SoundHeadline, Invariant}
use Rattle.script_terms.specs.Keeping.{IsKeeping}
use Rattle.script_terms.specs.State.{State, OfAll, desk_of}
use Rattle.script_terms.specs.Run.{Outcome, Run, text_of, any_refused, last_state, EachSound, EachInvariant, EachKeeping, WritesRun, WritesPrefix}
use Rattle.script_terms.proofs.Runs.{run_keeps}
use Rattle.script_terms.proofs.Starts.{last_sound, last_settled}
use Rattle.topo_run.specs.Told.{WritesTo}
use Rattle.topo_run.specs.Replayers.{BreaksIn}
use Rattle.topo_run.proofs.Runs.{SoFar, text_snoc}

-- ---- where a text breaks off
pub record Found (s : State) (lines : List (List ℕ)) (os : List Outcome) (text : List ℕ) : Type 0 where
  pub first : List (List ℕ)
  pub line : List ℕ
  pub later : List (List ℕ)
  pub lines_are : lines ≡ first ++ line ∷ later
  pub before : List Outcome
  pub last : Outcome
  pub behind : List Outcome
  pub outcomes_are : os ≡ before ++ last ∷ behind
  pub run : Run s (first ++ line ∷ []) (before ++ last ∷ [])
  pub front : List ℕ
  pub left : List ℕ
  pub reply : last.text ≡ front ++ left
  pub wrote : text ≡ text_of before ++ front
  pub short : length front < length last.text

-- the longer front begins with the shorter
front_of : (c a b d : List ℕ) → a ++ b ≡ c ++ d → length c ≤ length a → (r : List ℕ) × (a ≡ c ++ r) × (r ++ b ≡ d)
front_of [] a b d is fits = (a, refl, is)
front_of (x ∷ c) [] b d is fits = absurd (omega (arith, fits))
front_of (x ∷ c) (y ∷ a) b d is fits =
    let same : y ≡ x = cc in
    let rest : a ++ b ≡ c ++ d = cc in
    let more = front_of c a b d rest (omega (arith, fits)) in
    (more.0, ap (λ (z : ℕ). z ∷ a) same ∙ ap (λ (t : List ℕ). x ∷ t) more.1, more.2)

found_here : (s : State) (line : List ℕ) (lines : List (List ℕ)) (o : Outcome) (os : List Outcome) (text missing : List ℕ)
    → Run s (line ∷ lines) (o ∷ os) → o.text ++ text_of os ≡ text ++ missing → length text < length o.text → Found s (line ∷ lines) (o ∷ os) text
found_here s line lines o os text missing run is short =
    let split = front_of text o.text (text_of os) missing is (omega (arith, short)) in
    record {
      first = [];
      line = line;
      later = lines;
      lines_are = refl;
      before = [];
      last = o;
      behind = os;
      outcomes_are = refl;
      run = (run.0, tt);
      front = text;
      left = split.0;
      reply = split.1;
      wrote = refl;
      short = short;
    }

found_later : (s : State) (line : List ℕ) (lines : List (List ℕ)) (o : Outcome) (os : List Outcome) (text rest : List ℕ)
    → Run s (line ∷ lines) (o ∷ os) → text ≡ o.text ++ rest → Found o.after lines os rest → Found s (line ∷ lines) (o ∷ os) text
found_later s line lines o os text rest run is f = record {
  first = line ∷ f.first;
  line = f.line;
  later = f.later;
  lines_are = ap (λ (ls : List (List ℕ)). line ∷ ls) f.lines_are;
  before = o ∷ f.before;
  last = f.last;
  behind = f.behind;
  outcomes_are = ap (λ (ps : List Outcome). o ∷ ps) f.outcomes_are;
  run = (run.0, f.run);
  front = f.front;
  left = f.left;
  reply = f.reply;
  wrote = is ∙ (ap (λ (t : List ℕ). o.text ++ t) f.wrote ∙ sym (append_assoc o.text (text_of f.before) f.front));
  short = f.short;
}

find : (s : State) (lines : List (List ℕ)) (os : List Outcome) (text missing : List ℕ) → Run s lines os → text_of os ≡ text ++ missing
    → 0 < length missing → Found s lines os text
find s [] [] text missing run is some = absurd (omega (arith, ap (length {A = ℕ}) is, length-append text missing, some))
find s [] (o ∷ os) text missing run is some = absurd run
find s (line ∷ lines) [] text missing run is some = absurd run
find s (line ∷ lines) (o ∷ os) text missing run is some = elim (cases_lt (length text) (length o.text)) [
  | inl short ↦ found_here s line lines o os text missing run is short
  | inr long ↦
      let split = front_of o.text text missing (text_of os) (sym is) long in
      found_later s line lines o os text split.0 run split.1 (find o.after lines os split.0 missing run.1 (sym split.2) some)
]

-- ---- what holds in each state of a run does in each state of its first part
sound_head : (s : State) (os : List Outcome) → EachSound s os → OfAll SoundHeadline s
sound_head s [] h = h
sound_head s (o ∷ os) h = h.0

sound_front : (s : State) (os ps : List Outcome) → EachSound s (os ++ ps) → EachSound s os
sound_front s [] ps h = sound_head s ps h
sound_front s (o ∷ os) ps h = (h.0, sound_front o.after os ps h.1)

invariant_head : (s : State) (os : List Outcome) → EachInvariant s os → OfAll Invariant s
invariant_head s [] h = h
invariant_head s (o ∷ os) h = h.0

invariant_front : (s : State) (os ps : List Outcome) → EachInvariant s (os ++ ps) → EachInvariant s os
invariant_front s [] ps h = invariant_head s ps h
invariant_front s (o ∷ os) ps h = (h.0, invariant_front o.after os ps h.1)

-- of what is pending a part was written, and the writing failed
pub breaks : {start now : State} {all rest : List (List ℕ)} {before written mid : Option (List ℕ)} {pending : List ℕ} {refused : Bool}
    (part left : List ℕ) → SoFar start all rest now before written pending refused → IsKeeping (desk_of start) → OfAll IsOrdered start
    → pending ≡ part ++ left → length part < length pending → Appends written mid part → BreaksIn start all before mid
breaks {start} {now} {all} {rest} {before} {written} {mid} {pending} {refused} part left far keeping ordered split short more =
    let text_is : text_of far.course.outcomes ≡ (far.front ++ part) ++ left =
    far.text ∙ (ap (λ (t : List ℕ). far.front ++ t) split ∙ sym (append_assoc far.front part left)) in
    let some : 0 < length left = omega (arith, ap (length {A = ℕ}) split, length-append part left, short) in
    let f : Found start far.course.done far.course.outcomes (far.front ++ part) =
    find start far.course.done far.course.outcomes (far.front ++ part) left far.course.run text_is some in
    let outcomes_are : far.course.outcomes ≡ (f.before ++ f.last ∷ []) ++ f.behind =
    f.outcomes_are ∙ sym (append_assoc f.before (f.last ∷ []) f.behind) in
    record {
      prefix = record {
        first = f.first ++ f.line ∷ [];
        is_first = (
          f.later ++ rest,
          far.course.split ∙ (ap (λ (ls : List (List ℕ)). ls ++ rest) f.lines_are
              ∙ (append_assoc f.first (f.line ∷ f.later) rest ∙ sym (append_assoc f.first (f.line ∷ []) (f.later ++ rest)))),
        );
        outcomes = f.before ++ f.last ∷ [];
        run = f.run;
        text = far.front ++ part;
        is_prefix = (
          f.left,
          text_snoc f.before f.last ∙ (ap (λ (t : List ℕ). text_of f.before ++ t) f.reply
              ∙ (sym (append_assoc (text_of f.before) f.front f.left) ∙ ap (λ (t : List ℕ). t ++ f.left) (sym f.wrote))),
        );
        written = Appends-trans before written mid far.front part far.appended more;
        sound = λ k. sound_front start (f.before ++ f.last ∷ []) f.behind
            (subst (λ (os : List Outcome). EachSound start os) outcomes_are (far.course.sound k));
        invariant = λ k l. invariant_front start (f.before ++ f.last ∷ []) f.behind
            (subst (λ (os : List Outcome). EachInvariant start os) outcomes_are (far.course.invariant k l));
        keeping = run_keeps start (f.first ++ f.line ∷ []) (f.before ++ f.last ∷ []) keeping ordered f.run;
      };
      stops = record { before = f.before; last = f.last; ends = refl; front = f.front; wrote = f.wrote; short = f.short };
    }

-- ---- a run goes on from another
pub run_append : (s : State) (ls ms : List (List ℕ)) (os ps : List Outcome) → Run s ls os → Run (last_state s os) ms ps → Run s (ls ++ ms) (os ++ ps)
run_append s [] ms [] ps a b = b
run_append s [] ms (o ∷ os) ps a b = absurd a
run_append s (l ∷ ls) ms [] ps a b = absurd a
run_append s (l ∷ ls) ms (o ∷ os) ps a b = (a.0, run_append o.after ls ms os ps a.1 b)

pub last_append : (s : State) (os ps : List Outcome) → last_state s (os ++ ps) ≡ last_state (last_state s os) ps
last_append s [] ps = refl
last_append s (o ∷ os) ps = last_append o.after os ps

pub text_append : (os ps : List Outcome) → text_of (os ++ ps) ≡ text_of os ++ text_of ps
text_append [] ps = refl
text_append (o ∷ os) ps = ap (λ (t : List ℕ). o.text ++ t) (text_append os ps) ∙ sym (append_assoc o.text (text_of os) (text_of ps))

or_assoc : (a b c : Bool) → (a || (b || c)) ≡ ((a || b) || c)
or_assoc true b c = refl
or_assoc false b c = refl

pub any_append : (os ps : List Outcome) → any_refused (os ++ ps) ≡ (any_refused os || any_refused ps)
any_append [] ps = refl
any_append (o ∷ os) ps = ap (λ (b : Bool). o.refused || b) (any_append os ps) ∙ or_assoc o.refused (any_refused os) (any_refused ps)

pub sound_append : (s : State) (os ps : List Outcome) → EachSound s os → EachSound (last_state s os) ps → EachSound s (os ++ ps)
sound_append s [] ps a b = b
sound_append s (o ∷ os) ps a b = (a.0, sound_append o.after os ps a.1 b)

pub invariant_append : (s : State) (os ps : List Outcome) → EachInvariant s os → EachInvariant (last_state s os) ps → EachInvariant s (os ++ ps)
invariant_append s [] ps a b = b
invariant_append s (o ∷ os) ps a b = (a.0, invariant_append o.after os ps a.1 b)

pub keeping_append : (s : State) (os ps : List Outcome) → EachKeeping s os → EachKeeping (last_state s os) ps → EachKeeping s (os ++ ps)
keeping_append s [] ps a b = b
keeping_append s (o ∷ os) ps a b = (a.0, keeping_append o.after os ps a.1 b)

-- all was written of both
abbrev pub runs_more : (s : State) (ls ms : List (List ℕ)) (a b c : Option (List ℕ)) (r q : Bool) (first : WritesRun s ls a b r)
    → WritesRun (last_state s first.outcomes) ms b c q → WritesRun s (ls ++ ms) a c (r || q)
runs_more s ls ms a b c r q first more = record {
  outcomes = first.outcomes ++ more.outcomes;
  run = run_append s ls ms first.outcomes more.outcomes first.run more.run;
  written = subst (λ (t : List ℕ). Appends a c t) (sym (text_append first.outcomes more.outcomes))
      (Appends-trans a b c (text_of first.outcomes) (text_of more.outcomes) first.written more.written);
  any = any_append first.outcomes more.outcomes ∙ (ap (λ (x : Bool). x || any_refused more.outcomes) first.any
      ∙ ap (λ (x : Bool). r || x) more.any);
  sound = λ k. sound_append s first.outcomes more.outcomes (first.sound k) (more.sound (last_sound s first.outcomes (first.sound k)));
  invariant = λ k l. invariant_append s first.outcomes more.outcomes (first.invariant k l)
      (more.invariant (last_sound s first.outcomes (first.sound k)) (last_settled s first.outcomes (first.invariant k l)));
  keeping = keeping_append s first.outcomes more.outcomes first.keeping more.keeping;
}

pub writes_more : {s t u : State} {ls ms : List (List ℕ)} {a b c : Option (List ℕ)} {r q : Bool} → WritesTo s ls a b r t → WritesTo t ms b c q u
    → WritesTo s (ls ++ ms) a c (r || q) u
writes_more {s} {t} {u} {ls} {ms} {a} {b} {c} {r} {q} first more =
    let again : WritesTo (last_state s first.run.outcomes) ms b c q u =
    subst (λ (x : State). WritesTo x ms b c q u) (sym first.last) more in
    record {
      run = runs_more s ls ms a b c r q first.run again.run;
      last = last_append s first.run.outcomes again.run.outcomes ∙ again.last;
    }

-- all was written of the first, and of the second a prefix
abbrev pub prefix_runs : (s : State) (ls ms : List (List ℕ)) (a b c : Option (List ℕ)) (r : Bool) (first : WritesRun s ls a b r)
    → WritesPrefix (last_state s first.outcomes) ms b c → WritesPrefix s (ls ++ ms) a c
prefix_runs s ls ms a b c r first more = record {
  first = ls ++ more.first;
  is_first = (more.is_first.0, ap (λ (t : List (List ℕ)). ls ++ t) more.is_first.1 ∙ sym (append_assoc ls more.first more.is_first.0));
  outcomes = first.outcomes ++ more.outcomes;
  run = run_append s ls more.first first.outcomes more.outcomes first.run more.run;
  text = text_of first.outcomes ++ more.text;
  is_prefix = (
    more.is_prefix.0,
    text_append first.outcomes more.outcomes ∙ (ap (λ (t : List ℕ). text_of first.outcomes ++ t) more.is_prefix.1
        ∙ sym (append_assoc (text_of first.outcomes) more.text more.is_prefix.0)),
  );
  written = Appends-trans a b c (text_of first.outcomes) more.text first.written more.written;
  sound = λ k. sound_append s first.outcomes more.outcomes (first.sound k) (more.sound (last_sound s first.outcomes (first.sound k)));
  invariant = λ k l. invariant_append s first.outcomes more.outcomes (first.invariant k l)
      (more.invariant (last_sound s first.outcomes (first.sound k)) (last_settled s first.outcomes (first.invariant k l)));
  keeping = keeping_append s first.outcomes more.outcomes first.keeping more.keeping;
}

-- of the same lines
abbrev pub prefix_at : {s : State} {ls ms : List (List ℕ)} {a b : Option (List ℕ)} → ls ≡ ms → WritesPrefix s ls a b → WritesPrefix s ms a b
prefix_at {s} {ls} {ms} {a} {b} same w = record {
  first = w.first;
  is_first = (w.is_first.0, sym same ∙ w.is_first.1);
  outcomes = w.outcomes;
  run = w.run;
  text = w.text;
  is_prefix = w.is_prefix;
  written = w.written;
  sound = w.sound;
  invariant = w.invariant;
  keeping = w.keeping;
}

pub prefix_more : {s t : State} {ls ms : List (List ℕ)} {a b c : Option (List ℕ)} {r : Bool} → WritesTo s ls a b r t → WritesPrefix t ms b c
    → WritesPrefix s (ls ++ ms) a c
prefix_more {s} {t} {ls} {ms} {a} {b} {c} {r} first more =
    prefix_runs s ls ms a b c r first.run (subst (λ (x : State). WritesPrefix x ms b c) (sym first.last) more)

stops_more : (os ps : List Outcome) (text : List ℕ) → StopsInLast ps text → StopsInLast (os ++ ps) (text_of os ++ text)
stops_more os ps text h = record {
  before = os ++ h.before;
  last = h.last;
  ends = ap (λ (qs : List Outcome). os ++ qs) h.ends ∙ sym (append_assoc os h.before (h.last ∷ []));
  front = h.front;
  wrote = ap (λ (t : List ℕ). text_of os ++ t) h.wrote ∙ (sym (append_assoc (text_of os) (text_of h.before) h.front)
      ∙ ap (λ (t : List ℕ). t ++ h.front) (sym (text_append os h.before)));
  short = h.short;
}

-- the second breaks off; its lines follow the first's
pub record BreaksAfter (s : State) (ls ms : List (List ℕ)) (a c : Option (List ℕ)) : Type 0 where
  pub breaks : BreaksIn s (ls ++ ms) a c
  pub first : List (List ℕ)
  pub line : List ℕ
  pub later : List (List ℕ)
  pub among : ms ≡ first ++ line ∷ later
  pub lines : breaks.prefix.first ≡ ls ++ (first ++ line ∷ [])

line_of_last : (s : State) (lines : List (List ℕ)) (os : List Outcome) (o : Outcome) → Run s lines (os ++ o ∷ [])
    → (first : List (List ℕ)) × (line : List ℕ) × (lines ≡ first ++ line ∷ [])
line_of_last s [] [] o run = absurd run
line_of_last s [] (p ∷ os) o run = absurd run
line_of_last s (l ∷ []) [] o run = ([], l, refl)
line_of_last s (l ∷ m ∷ lines) [] o run = absurd run.1
line_of_last s (l ∷ lines) (p ∷ os) o run =
    let more = line_of_last p.after lines os o run.1 in
    (l ∷ more.0, more.1, ap (λ (ls : List (List ℕ)). l ∷ ls) more.2)

pub breaks_more : {s t : State} {ls ms : List (List ℕ)} {a b c : Option (List ℕ)} {r : Bool} → WritesTo s ls a b r t → BreaksIn t ms b c
    → BreaksAfter s ls ms a c
breaks_more {s} {t} {ls} {ms} {a} {b} {c} {r} first more =
    let again : BreaksIn (last_state s first.run.outcomes) ms b c =
    subst (λ (x : State). BreaksIn x ms b c) (sym first.last) more in
    let end = line_of_last (last_state s first.run.outcomes) again.prefix.first again.stops.before again.stops.last
    (subst (λ (os : List Outcome). Run (last_state s first.run.outcomes) again.prefix.first os) again.stops.ends again.prefix.run) in
    record {
      breaks = record {
        prefix = prefix_runs s ls ms a b c r first.run again.prefix;
        stops = stops_more first.run.outcomes again.prefix.outcomes again.prefix.text again.stops;
      };
      first = end.0;
      line = end.1;
      later = again.prefix.is_first.0;
      among = again.prefix.is_first.1 ∙ (ap (λ (ls : List (List ℕ)). ls ++ again.prefix.is_first.0) end.2
          ∙ append_assoc end.0 (end.1 ∷ []) again.prefix.is_first.0);
      lines = ap (λ (ms : List (List ℕ)). ls ++ ms) end.2;
    }
