-- A text is read line by line: what a line more gives, and where the reading ends.
use Rattle.std.proofs.Common.{ℕ, ◌≡◌, ◌≢◌, ◌+◌, ◌≤◌, List, [], ◌∷◌, ◌++◌, append_assoc, append-nil, length, length-append, Result, Ok, Err, refl, sym, ap, subst, ◌∙◌, inl, inr, arith}
use Rattle.std.specs.Prelude.{flat_map}
use Rattle.plane_terms.proofs.ListLemmas.{every_append}
use Rattle.project_terms.specs.declared.stage.Stage.TheVariants as stage
use Rattle.project_terms.specs.declared.project_cause.ProjectCause.{ProjectCause}
use Rattle.project_terms.specs.declared.project_cause.ProjectCause.TheVariants as cause
use Rattle.project_terms.specs.Drafts.{Draft, start}
use Rattle.project_terms.specs.Texts.{IsVerdict, IsInner, ended, AreRead, Begins, IsRead, IsFault}
use Rattle.project_text.specs.Reading.{Gives, IsProjectFault, at_line}
use Rattle.project_text.specs.declared.fault.LineFault.{LineFault}
use Rattle.project_text.specs.declared.fault.LineFault.TheVariants as line
use Rattle.project_text.specs.declared.fault.ProjectFault.{ProjectFault}
use Rattle.project_text.proofs.Sound.{IsSound, read_sound, start_sound}

read_more : (d e m : Draft) (ls : List (List ℕ)) (l : List ℕ) → AreRead d ls e → IsVerdict e l (Ok m) → AreRead d (ls ++ l ∷ []) m
read_more d e m [] l r v = let w : IsVerdict d l (Ok m) = subst (λ (x : Draft). IsVerdict x l (Ok m)) (sym r) v in (m, w, refl)
read_more d e m (k ∷ ls) l (n, u, r) v = (n, u, read_more n e m ls l r v)

all_text : (ls : List (List ℕ)) (l more : List ℕ) → flat_map ended ls ++ (ended l ++ more) ≡ flat_map ended (ls ++ l ∷ []) ++ more
all_text [] l more = ap (λ t. t ++ more) (sym (append-nil (ended l)))
all_text (k ∷ ls) l more = append_assoc (ended k) (flat_map ended ls) (ended l ++ more) ∙ (ap (λ t. ended k ++ t) (all_text ls l more)
    ∙ sym (append_assoc (ended k) (flat_map ended (ls ++ l ∷ [])) more))

-- a text that begins with right lines, of which n - 1 are read
pub record IsBegun (t : List ℕ) (d : Draft) (rest : List ℕ) (n : ℕ) : Type 0 where
  pub lines : List (List ℕ)
  pub begins : Begins t start lines d rest
  pub number : n ≡ length lines + 1

pub begun : (t : List ℕ) (d : Draft) → start ≡ d → IsBegun t d t 1
begun t d e = record { lines = []; begins = record { inner = tt; text = refl; read = e }; number = refl }

pub one_more : (t : List ℕ) (d m : Draft) (rest l more : List ℕ) (n : ℕ) → IsBegun t d rest n → IsInner l → rest ≡ ended l ++ more
    → IsVerdict d l (Ok m) → IsBegun t m more (n + 1)
one_more t d m rest l more n b inner cut v = record {
  lines = b.lines ++ l ∷ [];
  begins = record {
    inner = every_append IsInner b.lines (l ∷ []) b.begins.inner (inner, tt);
    text = b.begins.text ∙ (ap (λ r. flat_map ended b.lines ++ r) cut ∙ all_text b.lines l more);
    read = read_more start d m b.lines l b.begins.read v;
  };
  number = omega (arith, b.number, length-append b.lines (l ∷ []));
}

pub sound : (t : List ℕ) (d : Draft) (rest : List ℕ) (n : ℕ) → IsBegun t d rest n → IsSound d
sound t d rest n b = read_sound b.lines start d start_sound b.begins.read

pub short : (t : List ℕ) (d : Draft) (rest : List ℕ) (n : ℕ) → IsBegun t d rest n → d.stage ≢ stage.End → IsInner rest
    → IsFault t n cause.Short
short t d rest n b on inner = record {
  lines = b.lines;
  draft = d;
  rest = rest;
  begins = b.begins;
  number = b.number;
  wrong = inr (on, inl (inner, refl));
}

pub wrong : (t : List ℕ) (d : Draft) (rest l more : List ℕ) (n : ℕ) (c : ProjectCause) → IsBegun t d rest n → d.stage ≢ stage.End
    → IsInner l
    → rest ≡ ended l ++ more → IsVerdict d l (Err c) → IsFault t n c
wrong t d rest l more n c b on inner cut v = record {
  lines = b.lines;
  draft = d;
  rest = rest;
  begins = b.begins;
  number = b.number;
  wrong = inr (on, inr (record { line = l; more = more; inner = inner; text = cut; verdict = v }));
}

pub behind : (t : List ℕ) (d : Draft) (rest : List ℕ) (n : ℕ) → IsBegun t d rest n → d.stage ≡ stage.End → rest ≢ []
    → IsFault t n cause.Form
behind t d rest n b over some = record {
  lines = b.lines;
  draft = d;
  rest = rest;
  begins = b.begins;
  number = b.number;
  wrong = inl (over, some, refl);
}

pub all_read : (t : List ℕ) (d : Draft) (rest : List ℕ) (n : ℕ) → IsBegun t d rest n → d.stage ≡ stage.End → rest ≡ [] → IsRead t d.project
all_read t d rest n b over none = (
  b.lines,
  d,
  record { inner = b.begins.inner; text = b.begins.text ∙ ap (λ r. flat_map ended b.lines ++ r) none; read = b.begins.read },
  over,
  refl,
)

-- ---- what the code knows of a line
pub right : {X : Type 0} (r : Result X LineFault) (x : X) (d m : Draft) (l : List ℕ) → Gives r (IsVerdict d l) m → r ≡ Ok x
    → IsVerdict d l (Ok m)
right r x d m l h e = subst (λ y. Gives y (IsVerdict d l) m) e h

wrong_by : {X : Type 0} (r : Result X LineFault) (f : LineFault) (t : List ℕ) (d m : Draft) (rest l more : List ℕ) (n : ℕ)
    → IsBegun t d rest n
    → d.stage ≢ stage.End → IsInner l → rest ≡ ended l ++ more → Gives r (IsVerdict d l) m → r ≡ Err f → IsProjectFault t (at_line n f)
wrong_by r (line.Wrong c) t d m rest l more n b on inner cut h e =
    wrong t d rest l more n c b on inner cut (subst (λ y. Gives y (IsVerdict d l) m) e h)
wrong_by r line.NoMemory t d m rest l more n b on inner cut h e = tt

pub wrong_line : {X : Type 0} (r : Result X LineFault) (f : LineFault) (g : ProjectFault) (t : List ℕ) (d m : Draft) (rest l more : List ℕ)
    (n : ℕ)
    → IsBegun t d rest n → d.stage ≢ stage.End → IsInner l → rest ≡ ended l ++ more → Gives r (IsVerdict d l) m → r ≡ Err f
    → g ≡ at_line n f
    → IsProjectFault t g
wrong_line r f g t d m rest l more n b on inner cut h e same =
    subst (λ (k : ProjectFault). IsProjectFault t k) (sym same) (wrong_by r f t d m rest l more n b on inner cut h e)

pub few_more : (n a : ℕ) (rest l more : List ℕ) → n + length rest ≤ a → rest ≡ ended l ++ more → n + 1 + length more ≤ a
few_more n a rest l more h cut =
    let e : length rest ≡ length (ended l) + length more = ap (λ (t : List ℕ). length t) cut ∙ length-append (ended l) more in
    let f : length (ended l) ≡ length l + 1 = length-append l (10 ∷ []) in omega (arith, h, e, f)
