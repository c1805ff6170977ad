-- A script is read in pieces, and each piece is answered before the next one is read.
--
-- HasAnswered ..   the lines that end in what was given are answered, and what follows its last LF is held
-- Taking ..        this was taken of the source, and has been answered so; the script has room for so many bytes more
-- taking_begins, takes_on     what the loop needs of it, turn by turn
-- ends_whole, ends_long, ends_failed     how the reading ends
-- some_in_piece, some_at_end, breaks_in_piece, breaks_at_end     why the answering ends early
use Rattle.std.proofs.Common.{ℕ, ◌+◌, ◌-◌, ◌≡◌, ◌<◌, ◌≤◌, min, Bool, true, false, ◌||◌, List, [], ◌∷◌, ◌++◌, Option, length, take, drop, inl, inr, refl, sym, ◌∙◌, ap, subst, arith, append_assoc, append-nil, length-append}
use Rattle.std.proofs.lemmas.Bool.{cases_lt}
use Rattle.std.proofs.lemmas.List.{take-append-drop, take_all, take-take, length-take}
use Rattle.std.proofs.Math.ListN.{drop_of_length-le}
use Rattle.std.proofs.Math.Seq.{take-append-add}
use Rattle.std.specs.Io.KnownBytes.{Consumes, IsAtEnd, Keeps}
use Rattle.std.proofs.KnownBytes.{Appends-nil, Consumes-nil, Consumes-trans, Consumes-kept}
use Rattle.text_terms.specs.Lines.{last_line, lines_of}
use Rattle.topology_terms.specs.Project.{IsOrdered}
use Rattle.outside_terms.specs.Faults.{Rose}
use Rattle.outside_terms.specs.Reads.{Passage, script_limit}
use Rattle.outside_terms.specs.declared.end.End.TheVariants.{AtEnd, Failed, TooLong}
use Rattle.script_terms.specs.Ends.{ReplaysSome, BreaksOff}
use Rattle.script_terms.specs.Keeping.{IsKeeping}
use Rattle.script_terms.specs.Run.{WritesPrefix}
use Rattle.script_terms.specs.State.{State, OfAll, desk_of}
use Rattle.topo_run.specs.Told as told
use Rattle.topo_run.specs.Told.{WritesTo}
use Rattle.topo_run.specs.Replayers.{Holds, Replaying, Answers, AnswersAll, BreaksIn, tail_of}
use Rattle.topo_run.proofs.Breaking.{BreaksAfter, writes_more, prefix_at, prefix_more, breaks_more}
use Rattle.topo_run.proofs.Feeding.{or_none, flag_on, none_written}
use Rattle.topo_run.proofs.Runs.{begins, ends}
use Rattle.topo_run.proofs.Tails.{Upto, not_there, last_of, lines_append, lines_open, tail_append, tail_open, tail_unended, holds_none, upto_line}

-- ---- the lines of a text that goes on
more_lines : (w : Bool) (given fed : List ℕ) → lines_of w (given ++ fed) ≡ lines_of false given ++ lines_of w (tail_of given ++ fed)
more_lines w given fed = lines_append w [] given fed ∙ ap (λ (ls : List (List ℕ)). lines_of false given ++ ls)
    (sym (lines_open w (tail_of given) fed (tail_unended [] given tt)))

more_tail : (given fed : List ℕ) → tail_of (given ++ fed) ≡ tail_of (tail_of given ++ fed)
more_tail given fed = tail_append [] given fed ∙ sym (tail_open (tail_of given) fed (tail_unended [] given tt))

end_lines : (given : List ℕ) → lines_of true given ≡ lines_of false given ++ lines_of true (tail_of given)
end_lines given = ap (λ (t : List ℕ). lines_of true t) (sym (append-nil given)) ∙ (more_lines true given []
    ∙ ap (λ (t : List ℕ). lines_of false given ++ lines_of true t) (append-nil (tail_of given)))

-- ---- what was answered
pub record HasAnswered (old now : Replaying) (given : List ℕ) (before written : Option (List ℕ)) : Type 0 where
  pub any : Bool
  pub run : WritesTo old.state (lines_of false given) before written any now.state
  pub holds : Holds (tail_of given) now.rest
  pub flag : now.refused ≡ (old.refused || any)

pub answered_more : {old now next : Replaying} {given : List ℕ} {before written after : Option (List ℕ)} (fed : List ℕ)
    → HasAnswered old now given before written
    → ((tail : List ℕ) → Holds tail now.rest → Answers now (lines_of false (tail ++ fed)) (tail_of (tail ++ fed)) written after next)
    → HasAnswered old next (given ++ fed) before after
answered_more {old} {now} {next} {given} {before} {written} {after} fed h more =
    let a = more (tail_of given) h.holds in
    record {
      any = h.any || a.refused;
      run = subst (λ (ls : List (List ℕ)). WritesTo old.state ls before after (h.any || a.refused) next.state)
          (sym (more_lines false given fed)) (writes_more h.run a.run);
      holds = subst (λ (t : List ℕ). Holds t next.rest) (sym (more_tail given fed)) a.holds;
      flag = flag_on next.refused now.refused old.refused h.any a.refused a.flag h.flag;
    }

prefix_answered : {old now : Replaying} {given : List ℕ} {before written after : Option (List ℕ)} (fed : List ℕ)
    → HasAnswered old now given before written
    → ((tail : List ℕ) → Holds tail now.rest → WritesPrefix now.state (lines_of false (tail ++ fed)) written after)
    → WritesPrefix old.state (lines_of false (given ++ fed)) before after
prefix_answered {old} {now} {given} {before} {written} {after} fed h more =
    prefix_at (sym (more_lines false given fed)) (prefix_more h.run (more (tail_of given) h.holds))

-- ---- what was taken
pub record Taking (old now : Replaying) (source left before written : Option (List ℕ)) (room : ℕ) : Type 0 where
  pub given : List ℕ
  pub consumed : Consumes source left given
  pub fits : length given + room ≡ script_limit
  pub answered : HasAnswered old now given before written

pub taking_begins : (old : Replaying) (source before : Option (List ℕ)) → told.Keeps old.state old.state → IsKeeping (desk_of old.state)
    → OfAll IsOrdered old.state → old.rest ≡ [] → Taking old old source source before before script_limit
taking_begins old source before keeps keeping ordered none = record {
  given = [];
  consumed = Consumes-nil source;
  fits = omega arith;
  answered = record {
    any = false;
    run = ends (begins old.state [] before keeps) keeping ordered refl refl (Appends-nil before);
    holds = subst (λ (r : List ℕ). Holds [] r) (sym none) holds_none;
    flag = or_none old.refused;
  };
}

-- a piece that was read is as long as the room for it
pub whole_piece : (items read : List ℕ) (n : ℕ) → n ≡ length items → length read ≡ n → take n (read ++ drop (length read) items) ≡ read
whole_piece items read n is same = ap (λ (t : List ℕ). take n (read ++ t)) (drop_of_length-le items (omega (arith, is, same)))
    ∙ (ap (λ (t : List ℕ). take n t) (append-nil read) ∙ take_all n read (omega (arith, same)))

-- of a piece as much is fed as there is room for
pub fed_is : (piece : List ℕ) (room count n : ℕ) → n ≡ min count room → take n piece ≡ take room (take count piece)
fed_is piece room count n is = elim (cases_lt count room) [
  | inl within ↦
      let all : n ≡ count = omega (arith, is, within) in
      ap (λ (m : ℕ). take m piece) all ∙ sym (take_all room (take count piece) (omega (arith, length-take count piece, within)))
  | inr over ↦
      let cut : n ≡ room = omega (arith, is, over) in
      ap (λ (m : ℕ). take m piece) cut ∙ sym (take-take room count piece over)
]

cut_given : (given took : List ℕ) (room : ℕ) → length given + room ≡ script_limit → take script_limit (given ++ took) ≡ given ++ take room took
cut_given given took room fits = ap (λ (n : ℕ). take n (given ++ took)) (sym fits) ∙ take-append-add given took room

pub takes_on : {old now next : Replaying} {source left later before written after : Option (List ℕ)} {room : ℕ} (took fed : List ℕ) (count : ℕ)
    → Taking old now source left before written room → Consumes left later took → fed ≡ take room took → count ≡ length took → count ≤ room
    → ((tail : List ℕ) → Holds tail now.rest → Answers now (lines_of false (tail ++ fed)) (tail_of (tail ++ fed)) written after next)
    → Taking old next source later before after (room - count)
takes_on {old} {now} {next} {source} {left} {later} {before} {written} {after} {room} took fed count t more is counts short answers =
    let all : fed ≡ took = is ∙ take_all room took (omega (arith, counts, short)) in
    record {
      given = t.given ++ took;
      consumed = Consumes-trans source left later t.given took t.consumed more;
      fits = omega (arith, length-append t.given took, t.fits, counts, short);
      answered = subst (λ (f : List ℕ). HasAnswered old next (t.given ++ f) before after) all (answered_more fed t.answered answers);
    }

-- ---- how the reading ends
taken_whole : (source left new : Option (List ℕ)) (given : List ℕ) → Consumes source left given → Consumes left new [] → Consumes source new given
taken_whole source left new given a b =
    subst (λ (g : List ℕ). Consumes source new g) (append-nil given) (Consumes-trans source left new given [] a b)

pub ends_whole : (s k : Passage) {old now next : Replaying} {left written : Option (List ℕ)} {room : ℕ}
    → Taking old now s.old left k.old written room → Consumes left s.new [] → IsAtEnd s.new
    → ((tail : List ℕ) → Holds tail now.rest → Answers now (lines_of true tail) [] written k.new next) → AnswersAll old next s k AtEnd
ends_whole s k {old} {now} {next} {left} {written} {room} t last end answers =
    let h = t.answered in
    let a = answers (tail_of t.given) h.holds in
    record {
      kept = t.given;
      refused = h.any || a.refused;
      read = record {
        given = t.given;
        consumed = taken_whole s.old left s.new t.given t.consumed last;
        ended = (refl, omega (arith, t.fits), end);
      };
      run = subst (λ (ls : List (List ℕ)). WritesTo old.state ls k.old k.new (h.any || a.refused) next.state) (sym (end_lines t.given))
          (writes_more h.run a.run);
      flag = flag_on next.refused now.refused old.refused h.any a.refused a.flag h.flag;
    }

pub ends_long : (s k : Passage) {old now next : Replaying} {left written : Option (List ℕ)} {room : ℕ} (took fed : List ℕ)
    → Taking old now s.old left k.old written room → Consumes left s.new took → fed ≡ take room took → room < length took
    → ((tail : List ℕ) → Holds tail now.rest → Answers now (lines_of false (tail ++ fed)) (tail_of (tail ++ fed)) written k.new next)
    → AnswersAll old next s k TooLong
ends_long s k {old} {now} {next} {left} {written} {room} took fed t more is over answers =
    let h = answered_more fed t.answered answers in
    record {
      kept = t.given ++ fed;
      refused = h.any;
      read = record {
        given = t.given ++ took;
        consumed = Consumes-trans s.old left s.new t.given took t.consumed more;
        ended = (
          ap (λ (f : List ℕ). t.given ++ f) is ∙ sym (cut_given t.given took room t.fits),
          omega (arith, length-append t.given took, t.fits, over),
        );
      };
      run = h.run;
      flag = h.flag;
    }

pub ends_failed : (s k : Passage) {old now : Replaying} {left : Option (List ℕ)} {room : ℕ} → Taking old now s.old left k.old k.new room
    → Keeps left s.new → Rose s.before s.now → AnswersAll old now s k Failed
ends_failed s k {old} {now} {left} {room} t same rose = record {
  kept = t.given;
  refused = t.answered.any;
  read = record {
    given = t.given;
    consumed = Consumes-kept s.old left s.new t.given t.consumed same;
    ended = (refl, omega (arith, t.fits), rose);
  };
  run = t.answered.run;
  flag = t.answered.flag;
}

-- ---- the answering ends early
clash : false ≡ true → ⊥
clash e = cc

-- nothing was read
pub none_taken : (s k : Passage) (start : State) → told.Keeps start start → IsKeeping (desk_of start) → OfAll IsOrdered start → s.old ≡ s.new → k.old ≡ k.new
    → ReplaysSome start s k
none_taken s k start keeps keeping ordered unread unwritten = record {
  given = [];
  whole = false;
  taken = record {
    consumed = subst (λ (o : Option (List ℕ)). Consumes s.old o []) unread (Consumes-nil s.old);
    ended = λ test. absurd (clash test);
  };
  run = subst (λ (o : Option (List ℕ)). WritesPrefix start (lines_of false (take script_limit [])) k.old o) unwritten
      (none_written start (lines_of false (take script_limit [])) k.old keeps keeping ordered);
}

fed_lines : (given took fed : List ℕ) (room : ℕ) → length given + room ≡ script_limit → fed ≡ take room took
    → lines_of false (given ++ fed) ≡ lines_of false (take script_limit (given ++ took))
fed_lines given took fed room fits is = ap (λ (t : List ℕ). lines_of false t)
    (ap (λ (f : List ℕ). given ++ f) is ∙ sym (cut_given given took room fits))

abbrev some_taken : (s k : Passage) {old now : Replaying} {left written : Option (List ℕ)} {room : ℕ} (took fed : List ℕ)
    → (t : Taking old now s.old left k.old written room) → Consumes left s.new took → fed ≡ take room took
    → WritesPrefix old.state (lines_of false (t.given ++ fed)) k.old k.new → ReplaysSome old.state s k
some_taken s k {old} {now} {left} {written} {room} took fed t more is run = record {
  given = t.given ++ took;
  whole = false;
  taken = record {
    consumed = Consumes-trans s.old left s.new t.given took t.consumed more;
    ended = λ test. absurd (clash test);
  };
  run = prefix_at (fed_lines t.given took fed room t.fits is) run;
}

pub some_in_piece : (s k : Passage) {old now : Replaying} {left written : Option (List ℕ)} {room : ℕ} (took fed : List ℕ)
    → Taking old now s.old left k.old written room → Consumes left s.new took → fed ≡ take room took
    → ((tail : List ℕ) → Holds tail now.rest → WritesPrefix now.state (lines_of false (tail ++ fed)) written k.new)
    → ReplaysSome old.state s k
some_in_piece s k took fed t more is run = some_taken s k took fed t more is (prefix_answered fed t.answered run)

abbrev some_whole : (s k : Passage) {old now : Replaying} {left written : Option (List ℕ)} {room : ℕ}
    → (t : Taking old now s.old left k.old written room) → Consumes left s.new [] → IsAtEnd s.new
    → WritesPrefix old.state (lines_of false t.given ++ lines_of true (tail_of t.given)) k.old k.new → ReplaysSome old.state s k
some_whole s k {old} {now} {left} {written} {room} t last end run = record {
  given = t.given;
  whole = true;
  taken = record {
    consumed = taken_whole s.old left s.new t.given t.consumed last;
    ended = λ test. (omega (arith, t.fits), end);
  };
  run = prefix_at (sym (end_lines t.given) ∙ ap (λ (g : List ℕ). lines_of true g) (sym (take_all script_limit t.given (omega (arith, t.fits)))))
      run;
}

pub some_at_end : (s k : Passage) {old now : Replaying} {left written : Option (List ℕ)} {room : ℕ}
    → Taking old now s.old left k.old written room → Consumes left s.new [] → IsAtEnd s.new
    → ((tail : List ℕ) → Holds tail now.rest → WritesPrefix now.state (lines_of true tail) written k.new) → ReplaysSome old.state s k
some_at_end s k t last end run = some_whole s k t last end (prefix_more t.answered.run (run (tail_of t.given) t.answered.holds))

-- ---- the sink fails in the reply to a line
split_took : (given took fed front after : List ℕ) (room : ℕ) → fed ≡ take room took → fed ≡ front ++ after
    → given ++ took ≡ (given ++ front) ++ (after ++ drop room took)
split_took given took fed front after room is split =
    ap (λ (t : List ℕ). given ++ t) (sym (take-append-drop room took) ∙ (ap (λ (t : List ℕ). t ++ drop room took) (sym is ∙ split)
    ∙ append_assoc front after (drop room took))) ∙ sym (append_assoc given front (after ++ drop room took))

few_follow : (took fed front after : List ℕ) (room : ℕ) → fed ≡ take room took → length after < length fed → length took ≤ 65536
    → length (after ++ drop room took) < 65536
few_follow took fed front after room is some piece =
    let whole : length fed + length (drop room took) ≡ length took =
    ap (λ (t : List ℕ). length t + length (drop room took)) is ∙ (sym (length-append (take room took) (drop room took))
    ∙ ap (length {A = ℕ}) (take-append-drop room took)) in
    omega (arith, length-append after (drop room took), whole, some, piece)

pub breaks_in_piece : (s k : Passage) {old now : Replaying} {left written : Option (List ℕ)} {room : ℕ} (took fed : List ℕ)
    → Taking old now s.old left k.old written room → Consumes left s.new took → fed ≡ take room took → length took ≤ 65536
    → ((tail : List ℕ) → Holds tail now.rest → BreaksIn now.state (lines_of false (tail ++ fed)) written k.new) → BreaksOff old.state s k
breaks_in_piece s k {old} {now} {left} {written} {room} took fed t more is piece broken =
    let h = t.answered in
    let tail = tail_of t.given in
    let plain = tail_unended [] t.given tt in
    let b : BreaksAfter old.state (lines_of false t.given) (lines_of false (tail ++ fed)) k.old k.new = breaks_more h.run (broken tail h.holds) in
    let u : Upto tail fed (b.first ++ b.line ∷ []) =
    upto_line tail fed b.first b.line b.later (sym (lines_open false tail fed plain) ∙ b.among) in
    record {
      some = some_taken s k took fed t more is (prefix_at (sym (more_lines false t.given fed)) b.breaks.prefix);
      stops = b.breaks.stops;
      upto = t.given ++ u.front;
      after = u.after ++ drop room took;
      split = split_took t.given took fed u.front u.after room is u.split;
      few = few_follow took fed u.front u.after room is u.some piece;
      lines = more_lines true t.given u.front ∙ (ap (λ (ls : List (List ℕ)). lines_of false t.given ++ ls)
          (lines_open true tail u.front plain ∙ u.are) ∙ sym b.lines);
    }

one_last : (text : List ℕ) (first : List (List ℕ)) (line : List ℕ) (later : List (List ℕ)) → last_line true text ≡ first ++ line ∷ later
    → last_line true text ≡ first ++ line ∷ []
one_last [] first line later are = absurd (not_there first line later are)
one_last (x ∷ text) [] line later are = let same : last_line true (x ∷ text) ≡ line ∷ later = are in ap (λ (l : List ℕ). l ∷ []) cc
one_last (x ∷ text) (m ∷ first) line later are = absurd (not_there first line later cc)

pub breaks_at_end : (s k : Passage) {old now : Replaying} {left written : Option (List ℕ)} {room : ℕ}
    → Taking old now s.old left k.old written room → Consumes left s.new [] → IsAtEnd s.new
    → ((tail : List ℕ) → Holds tail now.rest → BreaksIn now.state (lines_of true tail) written k.new) → BreaksOff old.state s k
breaks_at_end s k {old} {now} {left} {written} {room} t last end broken =
    let h = t.answered in
    let tail = tail_of t.given in
    let plain = tail_unended [] t.given tt in
    let b : BreaksAfter old.state (lines_of false t.given) (lines_of true tail) k.old k.new = breaks_more h.run (broken tail h.holds) in
    let one : lines_of true tail ≡ b.first ++ b.line ∷ [] =
    last_of tail plain ∙ one_last tail b.first b.line b.later (sym (last_of tail plain) ∙ b.among) in
    record {
      some = some_whole s k t last end b.breaks.prefix;
      stops = b.breaks.stops;
      upto = t.given;
      after = [];
      split = sym (append-nil t.given);
      few = omega arith;
      lines = end_lines t.given ∙ (ap (λ (ls : List (List ℕ)). lines_of false t.given ++ ls) one ∙ sym b.lines);
    }
