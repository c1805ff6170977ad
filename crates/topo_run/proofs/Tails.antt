-- The lines of a text that comes in pieces, and what is held of a line that has not ended yet.
use Rattle.std.proofs.Common.{ℕ, zero, suc, ◌+◌, ◌-◌, ◌≡◌, ◌≢◌, ◌<◌, ◌≤◌, min, Bool, true, false, List, [], ◌∷◌, ◌++◌, length, take, drop, get_or, refl, sym, ◌∙◌, ap, subst, arith, append_assoc, append-nil, inl, inr}
use Rattle.std.specs.Prelude.{◌==◌, if◌then◌else◌}
use Rattle.std.proofs.lemmas.Bool.{cases_lt, eqb-true}
use Rattle.std.proofs.lemmas.List.{take-append-drop, take_all, take-take, take_min, length-take, nil_from_length, take_more}
use Rattle.std.proofs.Math.Seq.{take-append-add, split_at}
use Rattle.plane_terms.proofs.ListLemmas.{every_append, every_left}
use Rattle.text_terms.specs.Lines.{without_cr, last_line, lines_from, lines_of}
use Rattle.line_terms.specs.Lines.{IsLineFault}
use Rattle.line_terms.specs.declared.line_refusal.LineRefusal.{LineRefusal}
use Rattle.script_terms.specs.State.{State}
use Rattle.script_terms.specs.Run.{Reading, Reads, Faulty, ReadsAs, ComesOf, Outcome, Step}
use Rattle.topo_run.specs.Replayers.{rest_limit, HasNoLf, tail_from, tail_of, Holds}

-- ---- one byte more
plain_line : (w : Bool) (b : List ℕ) (x : ℕ) (t : List ℕ) → x ≢ 10 → lines_from w b (x ∷ t) ≡ lines_from w (b ++ x ∷ []) t
plain_line w b x t plain = grind arith

plain_tail : (b : List ℕ) (x : ℕ) (t : List ℕ) → x ≢ 10 → tail_from b (x ∷ t) ≡ tail_from (b ++ x ∷ []) t
plain_tail b x t plain = grind arith

is_plain : (x : ℕ) → (x == 10) ≡ false → x ≢ 10
is_plain x test = λ is. let clash : (10 == 10) ≡ false = subst (λ (n : ℕ). (n == 10) ≡ false) is test in cc

none_last : (b : List ℕ) → last_line false b ≡ []
none_last [] = refl
none_last (x ∷ b) = refl

-- ---- bytes without an LF
pub lines_plain : (w : Bool) (b a p : List ℕ) → HasNoLf a → lines_from w b (a ++ p) ≡ lines_from w (b ++ a) p
lines_plain w b [] p h = ap (λ (t : List ℕ). lines_from w t p) (sym (append-nil b))
lines_plain w b (x ∷ a) p h = plain_line w b x (a ++ p) h.0 ∙ (lines_plain w (b ++ x ∷ []) a p h.1
    ∙ ap (λ (t : List ℕ). lines_from w t p) (append_assoc b (x ∷ []) a))

pub tail_plain : (b a p : List ℕ) → HasNoLf a → tail_from b (a ++ p) ≡ tail_from (b ++ a) p
tail_plain b [] p h = ap (λ (t : List ℕ). tail_from t p) (sym (append-nil b))
tail_plain b (x ∷ a) p h = plain_tail b x (a ++ p) h.0 ∙ (tail_plain (b ++ x ∷ []) a p h.1
    ∙ ap (λ (t : List ℕ). tail_from t p) (append_assoc b (x ∷ []) a))

-- a text that goes on from its tail
pub lines_open : (w : Bool) (tail p : List ℕ) → HasNoLf tail → lines_of w (tail ++ p) ≡ lines_from w tail p
lines_open w tail p h = lines_plain w [] tail p h

pub tail_open : (tail p : List ℕ) → HasNoLf tail → tail_of (tail ++ p) ≡ tail_from tail p
tail_open tail p h = tail_plain [] tail p h

pub no_lines : (b a : List ℕ) → HasNoLf a → lines_from false b a ≡ []
no_lines b [] h = none_last b
no_lines b (x ∷ a) h = plain_line false b x a h.0 ∙ no_lines (b ++ x ∷ []) a h.1

pub all_tail : (b a : List ℕ) → HasNoLf a → tail_from b a ≡ b ++ a
all_tail b a h = ap (λ (t : List ℕ). tail_from b t) (sym (append-nil a)) ∙ tail_plain b a [] h

-- an LF ends a line
pub lines_at_lf : (w : Bool) (b a p : List ℕ) → HasNoLf a → lines_from w b (a ++ 10 ∷ p) ≡ without_cr (b ++ a) ∷ lines_from w [] p
lines_at_lf w b a p h = lines_plain w b a (10 ∷ p) h

pub tail_at_lf : (b a p : List ℕ) → HasNoLf a → tail_from b (a ++ 10 ∷ p) ≡ tail_from [] p
tail_at_lf b a p h = tail_plain b a (10 ∷ p) h

-- the last line, which no LF ends
pub last_of : (text : List ℕ) → HasNoLf text → lines_of true text ≡ last_line true text
last_of text h = ap (λ (t : List ℕ). lines_of true t) (sym (append-nil text)) ∙ lines_plain true [] text [] h

pub last_there : (text : List ℕ) → text ≢ [] → last_line true text ≡ without_cr text ∷ []
last_there [] some = absurd (some refl)
last_there (x ∷ text) some = refl

-- ---- a text and what follows it
lines_by : (w : Bool) (b xs p : List ℕ) (x : ℕ) → lines_from w [] (xs ++ p) ≡ lines_from false [] xs ++ lines_from w (tail_from [] xs) p
    → lines_from w (b ++ x ∷ []) (xs ++ p) ≡ lines_from false (b ++ x ∷ []) xs ++ lines_from w (tail_from (b ++ x ∷ []) xs) p → (test : Bool)
    → (if test then without_cr b ∷ lines_from w [] (xs ++ p) else lines_from w (b ++ x ∷ []) (xs ++ p))
    ≡ (if test then without_cr b ∷ lines_from false [] xs else lines_from false (b ++ x ∷ []) xs)
    ++ lines_from w (if test then tail_from [] xs else tail_from (b ++ x ∷ []) xs) p
lines_by w b xs p x ended further true = ap (λ (ls : List (List ℕ)). without_cr b ∷ ls) ended
lines_by w b xs p x ended further false = further

pub lines_append : (w : Bool) (b a p : List ℕ) → lines_from w b (a ++ p) ≡ lines_from false b a ++ lines_from w (tail_from b a) p
lines_append w b [] p = ap (λ (ls : List (List ℕ)). ls ++ lines_from w b p) (sym (none_last b))
lines_append w b (x ∷ xs) p = lines_by w b xs p x (lines_append w [] xs p) (lines_append w (b ++ x ∷ []) xs p) (x == 10)

tail_by : (b xs p : List ℕ) (x : ℕ) → tail_from [] (xs ++ p) ≡ tail_from (tail_from [] xs) p
    → tail_from (b ++ x ∷ []) (xs ++ p) ≡ tail_from (tail_from (b ++ x ∷ []) xs) p → (test : Bool)
    → (if test then tail_from [] (xs ++ p) else tail_from (b ++ x ∷ []) (xs ++ p))
    ≡ tail_from (if test then tail_from [] xs else tail_from (b ++ x ∷ []) xs) p
tail_by b xs p x ended further true = ended
tail_by b xs p x ended further false = further

pub tail_append : (b a p : List ℕ) → tail_from b (a ++ p) ≡ tail_from (tail_from b a) p
tail_append b [] p = refl
tail_append b (x ∷ xs) p = tail_by b xs p x (tail_append [] xs p) (tail_append (b ++ x ∷ []) xs p) (x == 10)

-- the bytes up to the end of a line
pub record Upto (before text : List ℕ) (lines : List (List ℕ)) : Type 0 where
  pub front : List ℕ
  pub after : List ℕ
  pub split : text ≡ front ++ after
  pub some : length after < length text
  pub are : lines_from true before front ≡ lines

upto_end : (b xs : List ℕ) (first : List (List ℕ)) (line : List ℕ) (later : List (List ℕ)) → without_cr b ∷ lines_from false [] xs ≡ first ++ line ∷ later
    → ((more : List (List ℕ)) → lines_from false [] xs ≡ more ++ line ∷ later → Upto [] xs (more ++ line ∷ []))
    → Upto b (10 ∷ xs) (first ++ line ∷ [])
upto_end b xs [] line later are next = record {
  front = 10 ∷ [];
  after = xs;
  split = refl;
  some = omega arith;
  are = let same : without_cr b ≡ line = cc in ap (λ (l : List ℕ). l ∷ []) same;
}
upto_end b xs (m ∷ more) line later are next =
    let same : without_cr b ≡ m = cc in
    let rest : lines_from false [] xs ≡ more ++ line ∷ later = cc in
    let u : Upto [] xs (more ++ line ∷ []) = next more rest in
    record {
      front = 10 ∷ u.front;
      after = u.after;
      split = ap (λ (t : List ℕ). 10 ∷ t) u.split;
      some = omega (arith, u.some);
      are = ap (λ (l : List ℕ). l ∷ lines_from true [] u.front) same ∙ ap (λ (ls : List (List ℕ)). m ∷ ls) u.are;
    }

upto_on : (b xs : List ℕ) (x : ℕ) (lines : List (List ℕ)) → x ≢ 10 → Upto (b ++ x ∷ []) xs lines → Upto b (x ∷ xs) lines
upto_on b xs x lines plain u = record {
  front = x ∷ u.front;
  after = u.after;
  split = ap (λ (t : List ℕ). x ∷ t) u.split;
  some = omega (arith, u.some);
  are = plain_line true b x u.front plain ∙ u.are;
}

pub not_there : (first : List (List ℕ)) (line : List ℕ) (later : List (List ℕ)) → [] ≡ first ++ line ∷ later → ⊥
not_there [] line later e = cc
not_there (m ∷ first) line later e = cc

pub upto_line : (b text : List ℕ) (first : List (List ℕ)) (line : List ℕ) (later : List (List ℕ)) → lines_from false b text ≡ first ++ line ∷ later
    → Upto b text (first ++ line ∷ [])
upto_line b [] first line later are = absurd (not_there first line later (sym (none_last b) ∙ are))
upto_line b (x ∷ xs) first line later are = by (x == 10) refl (λ more rest. upto_line [] xs more line later rest)
    (λ rest. upto_line (b ++ x ∷ []) xs first line later rest)
  where
    by : (test : Bool) → (x == 10) ≡ test
        → ((more : List (List ℕ)) → lines_from false [] xs ≡ more ++ line ∷ later → Upto [] xs (more ++ line ∷ []))
        → (lines_from false (b ++ x ∷ []) xs ≡ first ++ line ∷ later → Upto (b ++ x ∷ []) xs (first ++ line ∷ []))
        → Upto b (x ∷ xs) (first ++ line ∷ [])
    by true is ended further = let lf : x ≡ 10 = eqb-true x 10 is in
        subst (λ (y : ℕ). Upto b (y ∷ xs) (first ++ line ∷ [])) (sym lf) (upto_end b xs first line later
        (subst (λ (y : ℕ). lines_from false b (y ∷ xs) ≡ first ++ line ∷ later) lf are) ended)
    by false is ended further = let plain : x ≢ 10 = is_plain x is in
        upto_on b xs x (first ++ line ∷ []) plain (further (sym (plain_line false b x xs plain) ∙ are))

-- ---- what is held
pub tail_unended : (b a : List ℕ) → HasNoLf b → HasNoLf (tail_from b a)
tail_unended b [] h = h
tail_unended b (x ∷ xs) h = by (x == 10) refl (tail_unended [] xs tt) (λ plain. tail_unended (b ++ x ∷ []) xs
    (every_append (λ c. c ≢ 10) b (x ∷ []) h (plain, tt)))
  where
    by : (test : Bool) → (x == 10) ≡ test → HasNoLf (tail_from [] xs) → (x ≢ 10 → HasNoLf (tail_from (b ++ x ∷ []) xs))
        → HasNoLf (if test then tail_from [] xs else tail_from (b ++ x ∷ []) xs)
    by true is ended further = ended
    by false is ended further = further (is_plain x is)

no_lf_take : (n : ℕ) (t : List ℕ) → HasNoLf t → HasNoLf (take n t)
no_lf_take n t h = every_left (λ c. c ≢ 10) (take n t) (drop n t) (subst HasNoLf (sym (take-append-drop n t)) h)

pub cut_again : (n : ℕ) (t e : List ℕ) → take n (take n t ++ e) ≡ take n (t ++ e)
cut_again zero t e = refl
cut_again (suc n) [] e = refl
cut_again (suc n) (x ∷ t) e = ap (λ (l : List ℕ). x ∷ l) (cut_again n t e)

pub holds_none : Holds [] []
holds_none = record { unended = tt; cut = refl }

pub holds_self : {tail rest : List ℕ} → Holds tail rest → Holds rest rest
holds_self {tail} {rest} h = record {
  unended = subst HasNoLf (sym h.cut) (no_lf_take rest_limit tail h.unended);
  cut = h.cut ∙ (sym (take-take rest_limit rest_limit tail (omega arith)) ∙ ap (λ (r : List ℕ). take rest_limit r) (sym h.cut));
}

pub held_short : (rest : List ℕ) → Holds rest rest → length rest ≤ 1048578
held_short rest h = omega (arith, ap (length {A = ℕ}) h.cut, length-take rest_limit rest)

pub holds_more : {tail rest : List ℕ} (more : List ℕ) → Holds tail rest → HasNoLf more → Holds (tail ++ more) (take rest_limit (rest ++ more))
holds_more {tail} {rest} more h plain = record {
  unended = every_append (λ c. c ≢ 10) tail more h.unended plain;
  cut = ap (λ (r : List ℕ). take rest_limit (r ++ more)) h.cut ∙ cut_again rest_limit tail more;
}

pub none_held : (tail rest : List ℕ) → Holds tail rest → rest ≡ [] → tail ≡ []
none_held tail rest h none =
    nil_from_length tail (omega (arith, ap (length {A = ℕ}) h.cut, ap (length {A = ℕ}) none, length-take rest_limit tail))

pub some_held : (tail rest : List ℕ) → Holds tail rest → rest ≢ [] → tail ≢ []
some_held tail rest h some = λ none. some (h.cut ∙ ap (λ (t : List ℕ). take rest_limit t) none)

-- the room that a rest has
pub held_room : (rest more : List ℕ) (room count : ℕ) → length rest ≤ 1048578 → room ≡ 1048578 - length rest → count ≡ min room (length more)
    → rest ++ take count more ≡ take rest_limit (rest ++ more)
held_room rest more room count short is counts =
    let all : length rest + room ≡ rest_limit = omega arith in
    ap (λ (n : ℕ). rest ++ take n more) counts ∙ (ap (λ (t : List ℕ). rest ++ t) (take_min room more)
    ∙ (sym (take-append-add rest more room) ∙ ap (λ (n : ℕ). take n (rest ++ more)) all))

-- ---- a line that is cut is too long, whatever follows
cr_counts : (l : List ℕ) → length l ≤ length (without_cr l) + 1
cr_counts [] = omega arith
cr_counts (b ∷ []) = by (b == 13)
  where
    by : (test : Bool) → 1 ≤ length (if test then [] else b ∷ []) + 1
    by true = omega arith
    by false = omega arith
cr_counts (b ∷ c ∷ l) = let rest = cr_counts (c ∷ l) in omega (arith, rest)

long_fault : (l m : List ℕ) (r : LineRefusal) → 1048576 < length l → 1048576 < length m → IsLineFault l r → IsLineFault m r
long_fault l m r a b (inl (long, is)) = inl (b, is)
long_fault l m r a b (inr (short, rest)) = absurd (omega (arith, a, short))

long_step : (s : State) (l m : List ℕ) (o : Outcome) → 1048576 < length l → 1048576 < length m → Step s l o → Step s m o
long_step s l m o a b step = by step.reading step.reads step.comes
  where
    by : (r : Reading) → ReadsAs l r → ComesOf s r o → Step s m o
    by (Reads c) reads comes = absurd (omega (arith, a, reads.0))
    by (Faulty r) reads comes = record {
      reading = Faulty r;
      reads = (λ c command. absurd (omega (arith, b, command.0)), long_fault l m r a b reads.1);
      comes = comes;
      ordered = step.ordered;
    }

pub cut_step : (s : State) (l : List ℕ) (o : Outcome) → Step s (without_cr (take rest_limit l)) o → Step s (without_cr l) o
cut_step s l o step = elim (cases_lt rest_limit (length l)) [
  | inl long ↦
      let held : length (take rest_limit l) ≡ rest_limit = omega (arith, length-take rest_limit l) in
      long_step s (without_cr (take rest_limit l)) (without_cr l) o (omega (arith, cr_counts (take rest_limit l)))
      (omega (arith, cr_counts l)) step
  | inr short ↦ subst (λ (t : List ℕ). Step s (without_cr t) o) (take_all rest_limit l short) step
]

-- ---- the bytes before an LF
pub plain_more : (text : List ℕ) (n : ℕ) → n < length text → get_or text n 0 ≢ 10 → HasNoLf (take n text) → HasNoLf (take (n + 1) text)
plain_more text n within plain h = subst HasNoLf (sym (take_more text n 0 within))
    (every_append (λ c. c ≢ 10) (take n text) (get_or text n 0 ∷ []) h (plain, tt))

pub all_plain : (text : List ℕ) (n : ℕ) → length text ≤ n → HasNoLf (take n text) → HasNoLf text
all_plain text n past h = subst HasNoLf (take_all n text past) h

pub at_lf : (text : List ℕ) (n : ℕ) → n < length text → get_or text n 0 ≡ 10 → text ≡ take n text ++ 10 ∷ drop (suc n) text
at_lf text n within lf = split_at text n 0 within ∙ ap (λ (b : ℕ). take n text ++ b ∷ drop (suc n) text) lf

-- ---- what is added to a rest
pub held_kept : (rest more new : List ℕ) → Holds rest rest → HasNoLf more → new ≡ take rest_limit (rest ++ more) → Holds new new
held_kept rest more new h plain is = subst (λ (r : List ℕ). Holds r r) (sym is) (holds_self (holds_more more h plain))

pub same_held_rest : (rest new : List ℕ) → Holds rest rest → new ≡ rest → Holds new new
same_held_rest rest new h is = subst (λ (r : List ℕ). Holds r r) (sym is) h
