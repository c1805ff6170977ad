-- The text of a project, section by section, and each line as it is appended.
use Rattle.std.proofs.Common.{ℕ, ◌≡◌, Bool, true, false, List, [], ◌∷◌, ◌++◌, map, refl, sym, ap, ◌∙◌, append_assoc, Option, Some, None}
use Rattle.std.specs.Prelude.{flat_map, codes, decimal}
use Rattle.std.specs.Fmt.{signed_decimal}
use Rattle.std.proofs.lemmas.Grind.{flat_map-append}
use Rattle.plane_terms.specs.Cell.{Cell}
use Rattle.plane_terms.specs.Rectangle.{Rectangle}
use Rattle.plane_terms.specs.HalfPlane.{HalfPlane}
use Rattle.text_terms.specs.Wkt.{◌⧺◌}
use Rattle.wkt_terms.specs.Shapes.{shape_text}
use Rattle.rule_words.specs.Table.{word_of}
use Rattle.topology_terms.specs.Feature.{Class, Feature}
use Rattle.topology_terms.specs.Entry.{Entry}
use Rattle.topology_terms.specs.Project.{Project, InForce}
use Rattle.topology_terms.specs.Lookups.{class_at}
use Rattle.project_terms.specs.Lines.{joined}
use Rattle.project_terms.specs.Written.{sided_in, written_subtype, rect_fields, cell_fields, mark_word, extent_word, line_text, title, next_line, class_line, rule_line, feature_line, dirty_line, error_line, cell_line, error_lines, last_line, project_text}
use Rattle.project_text.proofs.Spelled.{title_fields}
use Rattle.text_out.specs.Fields.{rect_text}
use Rattle.project_text.specs.Pushed.{side_text, half_text, sign_text, halves_text, class_text, rule_text, feature_text, dirty_text, error_text, cell_text, error_texts, head_text, sections_text}

-- ---- fields behind spaces

abbrev pub spaced : List (List ℕ) → List ℕ → List ℕ
spaced [] rest = rest
spaced (f ∷ fs) rest = 32 ∷ f ++ spaced fs rest

pub spaced_line : (f : List ℕ) (fs : List (List ℕ)) (rest : List ℕ) → joined (f ∷ fs) ++ rest ≡ f ++ spaced fs rest
spaced_line f [] rest = refl
spaced_line f (g ∷ fs) rest = append_assoc f (32 ∷ joined (g ∷ fs)) rest ∙ ap (λ t. f ++ 32 ∷ t) (spaced_line g fs rest)

spaced-append : (fs gs : List (List ℕ)) (rest : List ℕ) → spaced (fs ++ gs) rest ≡ spaced fs (spaced gs rest)
spaced-append [] gs rest = refl
spaced-append (f ∷ fs) gs rest = ap (λ t. 32 ∷ f ++ t) (spaced-append fs gs rest)

side_spaced : (o : Option Class) (s : Option ℕ) (rest : List ℕ) → spaced (sided_in o s) rest ≡ side_text o s ++ rest
side_spaced None s rest = refl
side_spaced (Some c) s rest = refl

rect_spaced : (r : Rectangle) (rest : List ℕ) → spaced (rect_fields r) rest ≡ rect_text r ++ rest
rect_spaced r rest = simp append_assoc refl

four_said : (a b c d t rest : List ℕ) → 32 ∷ (a ++ (32 ∷ (b ++ (32 ∷ (c ++ (32 ∷ (d ++ (t ++ rest)))))))) ≡
    ((32 ∷ (a ++ (32 ∷ (b ++ (32 ∷ (c ++ (32 ∷ d))))))) ++ t) ++ rest
four_said a b c d t rest = simp append_assoc refl

three_said : (a b c t : List ℕ) → 32 ∷ (a ++ (32 ∷ (b ++ (32 ∷ (c ++ t))))) ≡ (32 ∷ (a ++ (32 ∷ (b ++ (32 ∷ c))))) ++ t
three_said a b c t = simp append_assoc refl

half_said : (h : HalfPlane) (m : Bool) (t rest : List ℕ)
    → 32 ∷ signed_decimal h.a ⧺ 32 ∷ signed_decimal h.b ⧺ 32 ∷ signed_decimal h.c ⧺ 32 ∷ sign_text h.op m ⧺ (t ++ rest) ≡
    (half_text h m ++ t) ++ rest
half_said h m t rest = four_said (signed_decimal h.a) (signed_decimal h.b) (signed_decimal h.c) (sign_text h.op m) t rest

halves_spaced : (hs : Cell) (rest : List ℕ) → spaced (cell_fields hs) rest ≡ halves_text hs ++ rest
halves_spaced [] rest = refl
halves_spaced (h ∷ []) rest = half_said h false [] rest
halves_spaced (h ∷ g ∷ hs) rest =
    ap (λ t. 32 ∷ signed_decimal h.a ⧺ 32 ∷ signed_decimal h.b ⧺ 32 ∷ signed_decimal h.c ⧺ 32 ∷ sign_text h.op true ⧺ t)
    (halves_spaced (g ∷ hs) rest)
    ∙ half_said h true (halves_text (g ∷ hs)) rest

-- ---- each line

class_same : (c : Class) → line_text (class_line c) ≡ class_text (Some c)
class_same c = simp append_assoc refl

pub rule_same : (cs : List Class) (q : InForce) → line_text (rule_line cs q) ≡ rule_text cs q
rule_same cs q =
    let o = class_at cs q.row.origin.class in
    let d = class_at cs q.row.dest.class in
    let s = q.row.origin.subtype in
    let t = q.row.dest.subtype in
    spaced_line (codes "rule") (decimal q.number ∷ word_of q.row.kind ∷ (sided_in o s ++ sided_in d t)) (10 ∷ [])
    ∙ ap (λ t. codes "rule" ⧺ 32 ∷ decimal q.number ⧺ 32 ∷ word_of q.row.kind ⧺ t)
    (spaced-append (sided_in o s) (sided_in d t) (10 ∷ []) ∙ (side_spaced o s (spaced (sided_in d t) (10 ∷ []))
    ∙ ap (λ x. side_text o s ++ x) (side_spaced d t (10 ∷ []))))

pub feature_same : (cs : List Class) (f : Feature) → line_text (feature_line cs f) ≡ feature_text cs f
feature_same cs f =
    let o = class_at cs f.class in
    let s = written_subtype f.subtype in
    spaced_line (codes "feature") (decimal f.handle ∷ (sided_in o s ++ shape_text f.shape ∷ [])) (10 ∷ [])
    ∙ ap (λ t. codes "feature" ⧺ 32 ∷ decimal f.handle ⧺ t)
    (spaced-append (sided_in o s) (shape_text f.shape ∷ []) (10 ∷ []) ∙ side_spaced o s (spaced (shape_text f.shape ∷ []) (10 ∷ [])))

pub dirty_same : (r : Rectangle) → line_text (dirty_line r) ≡ dirty_text r
dirty_same r = spaced_line (codes "dirty") (rect_fields r) (10 ∷ []) ∙ ap (λ t. codes "dirty" ++ t) (rect_spaced r (10 ∷ []))

pub error_same : (e : Entry) → line_text (error_line e) ≡ error_text e
error_same e =
    spaced_line (mark_word e.marked) (decimal e.rule ∷ decimal e.subject ∷ decimal e.other ∷ extent_word e.whole ∷ rect_fields e.frame)
    (10 ∷ [])
    ∙ ap (λ t. mark_word e.marked ++ t)
    (ap (λ t. 32 ∷ decimal e.rule ⧺ 32 ∷ decimal e.subject ⧺ 32 ∷ decimal e.other ⧺ 32 ∷ extent_word e.whole ⧺ t)
    (rect_spaced e.frame (10 ∷ []))
    ∙ three_said (decimal e.rule) (decimal e.subject) (decimal e.other) (32 ∷ extent_word e.whole ⧺ rect_text e.frame ⧺ 10 ∷ []))

cell_same : (c : Cell) → line_text (cell_line c) ≡ cell_text c
cell_same c = spaced_line (codes "cell") (cell_fields c) (10 ∷ []) ∙ ap (λ t. codes "cell" ++ t) (halves_spaced c (10 ∷ []))

-- ---- each section

section : {A : Type 0} (f : A → List (List ℕ)) (g : A → List ℕ) → ((x : A) → line_text (f x) ≡ g x)
    → (xs : List A) (ls : List (List (List ℕ)))
    → flat_map line_text (map f xs ++ ls) ≡ flat_map g xs ++ flat_map line_text ls
section f g same [] ls = refl
section f g same (x ∷ xs) ls =
    ap (λ t. t ++ flat_map line_text (map f xs ++ ls)) (same x) ∙ (ap (λ t. g x ++ t) (section f g same xs ls)
    ∙ sym (append_assoc (g x) (flat_map g xs) (flat_map line_text ls)))

pub lines_same : {A : Type 0} (f : A → List (List ℕ)) (g : A → List ℕ) → ((x : A) → line_text (f x) ≡ g x) → (xs : List A)
    → flat_map line_text (map f xs) ≡ flat_map g xs
lines_same f g same [] = refl
lines_same f g same (x ∷ xs) = ap (λ t. t ++ flat_map line_text (map f xs)) (same x) ∙ ap (λ t. g x ++ t) (lines_same f g same xs)

pub error_all : (e : Entry) → flat_map line_text (error_lines e) ≡ error_texts e
error_all e = ap (λ t. t ++ flat_map line_text (map {A = Cell} cell_line e.cells)) (error_same e)
    ∙ ap (λ t. error_text e ++ t) (lines_same {A = Cell} cell_line cell_text cell_same e.cells)

pub errors_same : (es : List Entry) (ls : List (List (List ℕ))) → flat_map line_text (flat_map error_lines es ++ ls) ≡ flat_map error_texts
    es ++ flat_map line_text ls
errors_same [] ls = refl
errors_same (e ∷ es) ls =
    let rest = flat_map error_lines es ++ ls in
    ap (λ t. flat_map line_text t) (append_assoc (error_lines e) (flat_map error_lines es) ls)
    ∙ (flat_map-append line_text (error_lines e) rest
    ∙ (ap (λ t. t ++ flat_map line_text rest) (error_all e)
    ∙ (ap (λ t. error_texts e ++ t) (errors_same es ls) ∙ sym (append_assoc (error_texts e) (flat_map error_texts es)
    (flat_map line_text ls)))))

pub sections : (p : Project) → project_text p ≡ sections_text p
sections p =
    let errors = flat_map error_lines p.entries ++ last_line ∷ [] in
    let dirt = map dirty_line p.dirt ++ errors in
    let features = map (feature_line p.classes) p.features ++ dirt in
    let rules = map (rule_line p.classes) p.rules ++ features in
    let head : (t : List ℕ) → line_text (title 2) ++ (line_text (next_line p.next) ++ t) ≡ head_text p.next ++ t =
    λ t. ap (λ fs. line_text fs ++ (line_text (next_line p.next) ++ t)) (title_fields true) ∙ simp append_assoc refl in
    head (flat_map line_text (map class_line p.classes ++ rules)) ∙ ap (λ t. head_text p.next ++ t)
    (section class_line (λ (c : Class). class_text (Some c)) class_same p.classes rules
    ∙ ap (λ t. flat_map (λ (c : Class). class_text (Some c)) p.classes ++ t)
    (section (rule_line p.classes) (rule_text p.classes) (rule_same p.classes) p.rules features
    ∙ ap (λ t. flat_map (rule_text p.classes) p.rules ++ t)
    (section (feature_line p.classes) (feature_text p.classes) (feature_same p.classes) p.features dirt
    ∙ ap (λ t. flat_map (feature_text p.classes) p.features ++ t)
    (section dirty_line dirty_text dirty_same p.dirt errors ∙ ap (λ t. flat_map dirty_text p.dirt ++ t)
    (errors_same p.entries (last_line ∷ []))))))

-- what is appended of a project to nothing is its text
pub all_written : (p : Project) (ds : List Rectangle) (old new : List ℕ) → ds ≡ p.dirt → old ≡ []
    → new ≡ old ++ sections_text (record p { dirt = ds }) → new ≡ project_text p
all_written p ds old new d o said =
    said ∙ (ap (λ t. t ++ sections_text (record p { dirt = ds })) o ∙ (ap (λ xs. sections_text (record p { dirt = xs })) d ∙ sym (sections p)))

one_said : (o a b o1 o2 : List ℕ) → o1 ≡ o ++ a → o2 ≡ o1 ++ b → o2 ≡ o ++ (a ++ b)
one_said o a b o1 o2 first second = second ∙ (ap (λ t. t ++ b) first ∙ append_assoc o a b)

-- the head and the six parts behind it
pub all_said : (n m : ℕ) (o b c d e f g o1 o2 o3 o4 o5 o6 o7 : List ℕ) → m ≡ n → o1 ≡ o ++ head_text m → o2 ≡ o1 ++ b → o3 ≡ o2 ++ c
    → o4 ≡ o3 ++ d → o5 ≡ o4 ++ e
    → o6 ≡ o5 ++ f → o7 ≡ o6 ++ g → o7 ≡ o ++ (head_text n ++ (b ++ (c ++ (d ++ (e ++ (f ++ g))))))
all_said n m o b c d e f g o1 o2 o3 o4 o5 o6 o7 same e1 e2 e3 e4 e5 e6 e7 =
    one_said o (head_text n) (b ++ (c ++ (d ++ (e ++ (f ++ g))))) o1 o7 (e1 ∙ ap (λ k. o ++ head_text k) same)
    (one_said o1 b (c ++ (d ++ (e ++ (f ++ g)))) o2 o7 e2 (one_said o2 c (d ++ (e ++ (f ++ g))) o3 o7 e3
    (one_said o3 d (e ++ (f ++ g)) o4 o7 e4
    (one_said o4 e (f ++ g) o5 o7 e5 (one_said o5 f g o6 o7 e6 e7)))))
