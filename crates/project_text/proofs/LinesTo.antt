-- The lines of a project as far as a stage, and a line more.
--
-- lines_to t s p       the lines of the project p as far as the stage s, in the format that has subtypes or that has none
use Rattle.std.proofs.Common.{ℕ, ◌≡◌, ◌≤◌, Bool, true, List, [], ◌∷◌, ◌++◌, map, append_assoc, refl, sym, ap, ◌∙◌, arith}
use Rattle.std.specs.Prelude.{flat_map}
use Rattle.std.proofs.lemmas.Grind.{flat_map-append}
use Rattle.plane_terms.specs.Rectangle.{Rectangle}
use Rattle.plane_terms.specs.Cell.{Cell}
use Rattle.topology_terms.specs.Feature.{Class, Feature}
use Rattle.topology_terms.specs.Entry.{Entry}
use Rattle.topology_terms.specs.Project.{Project, InForce}
use Rattle.project_terms.specs.declared.stage.Stage.{Stage}
use Rattle.project_terms.specs.declared.stage.Stage.TheVariants as stage
use Rattle.project_terms.specs.Written.{title, next_line, class_line, rule_line, feature_line, dirty_line, error_line, cell_line, last_line, error_lines, lines_of}
use Rattle.project_terms.specs.Drafts.{rank, takes_cell, with_cell}
use Rattle.project_text.proofs.Spelled.{format}

-- ---- the lines as far as a stage
abbrev pub body_of : List Class → List InForce → List Feature → List Rectangle → List Entry → List (List (List ℕ))
body_of cs rs F D es = map class_line
    cs ++ (map (rule_line cs) rs ++ (map (feature_line cs) F ++ (map dirty_line D ++ flat_map error_lines es)))

abbrev pub body : Project → List (List (List ℕ))
body p = body_of p.classes p.rules p.features p.dirt p.entries

abbrev pub lines_to : Bool → Stage → Project → List (List (List ℕ))
lines_to t stage.Start p = []
lines_to t stage.Title p = title (format t) ∷ []
lines_to t stage.End p = title (format t) ∷ next_line p.next ∷ (body p ++ last_line ∷ [])
lines_to t s p = title (format t) ∷ next_line p.next ∷ body p

pub lines_in : (t : Bool) (s : Stage) (p : Project) → 2 ≤ rank s → rank s ≤ 7 → lines_to t s p ≡ title (format t) ∷ next_line p.next ∷ body p
lines_in t stage.Start p some on = absurd (omega (arith, some))
lines_in t stage.Title p some on = absurd (omega (arith, some))
lines_in t stage.Next p some on = refl
lines_in t stage.Classes p some on = refl
lines_in t stage.Rules p some on = refl
lines_in t stage.Features p some on = refl
lines_in t stage.Dirt p some on = refl
lines_in t stage.Errors p some on = refl
lines_in t stage.End p some on = absurd (omega (arith, on))

pub lines_all : (t : Bool) (p : Project) → lines_to t stage.End p ≡ lines_of (format t) p
lines_all t p =
    let cs = map class_line p.classes in
    let rs = map (rule_line p.classes) p.rules in
    let F = map (feature_line p.classes) p.features in
    let D = map dirty_line p.dirt in
    let es = flat_map error_lines p.entries in
    let last : List (List (List ℕ)) = last_line ∷ [] in
    ap (λ ls. title (format t) ∷ next_line p.next ∷ ls) (append_assoc cs (rs ++ (F ++ (D ++ es))) last
    ∙ ap (λ t. cs ++ t) (append_assoc rs (F ++ (D ++ es)) last
    ∙ ap (λ t. rs ++ t) (append_assoc F (D ++ es) last ∙ ap (λ t. F ++ t) (append_assoc D es last))))

-- ---- a line more
pub deeper : {A : Type 0} (a b c x : List A) → b ≡ c ++ x → a ++ b ≡ (a ++ c) ++ x
deeper a b c x e = ap (λ t. a ++ t) e ∙ sym (append_assoc a c x)

pub section_end : {A B : Type 0} (f : A → B) (xs : List A) (x : A) (rest : List B) → rest ≡ []
    → map f (xs ++ x ∷ []) ++ rest ≡ (map f xs ++ rest) ++ f x ∷ []
section_end f [] x rest e = rw e refl
section_end f (y ∷ xs) x rest e = ap (λ t. f y ∷ t) (section_end f xs x rest e)

pub none_said_yet : (cs : List Class) (rs : List InForce) (F : List Feature) (D : List Rectangle) (es : List Entry) → cs ≡ [] → rs ≡ []
    → F ≡ [] → D ≡ [] → es ≡ []
    → body_of cs rs F D es ≡ []
none_said_yet cs rs F D es a b c d e = rw (a, b, c, d, e) refl

pub class_more : (cs : List Class) (c : Class) (rs : List InForce) (F : List Feature) (D : List Rectangle) (es : List Entry) → rs ≡ []
    → F ≡ []
    → D ≡ [] → es ≡ []
    → body_of (cs ++ c ∷ []) rs F D es ≡ body_of cs rs F D es ++ class_line c ∷ []
class_more cs c rs F D es a b d e = rw (a, b, d, e) (section_end class_line cs c [] refl)

pub rule_more : (cs : List Class) (rs : List InForce) (q : InForce) (F : List Feature) (D : List Rectangle) (es : List Entry) → F ≡ []
    → D ≡ []
    → es ≡ []
    → body_of cs (rs ++ q ∷ []) F D es ≡ body_of cs rs F D es ++ rule_line cs q ∷ []
rule_more cs rs q F D es b d e = rw (b, d, e) (deeper (map class_line cs) _ _ _ (section_end (rule_line cs) rs q [] refl))

pub feature_more : (cs : List Class) (rs : List InForce) (F : List Feature) (f : Feature) (D : List Rectangle) (es : List Entry) → D ≡ []
    → es ≡ []
    → body_of cs rs (F ++ f ∷ []) D es ≡ body_of cs rs F D es ++ feature_line cs f ∷ []
feature_more cs rs F f D es d e =
    rw (d, e) (deeper (map class_line cs) _ _ _ (deeper (map (rule_line cs) rs) _ _ _ (section_end (feature_line cs) F f [] refl)))

pub dirty_more : (cs : List Class) (rs : List InForce) (F : List Feature) (D : List Rectangle) (r : Rectangle) (es : List Entry) → es ≡ []
    → body_of cs rs F (D ++ r ∷ []) es ≡ body_of cs rs F D es ++ dirty_line r ∷ []
dirty_more cs rs F D r es e =
    rw e (deeper (map class_line cs) _ _ _ (deeper (map (rule_line cs) rs) _ _ _ (deeper (map (feature_line cs) F) _ _ _
    (section_end dirty_line D r [] refl))))

pub errors_more : (cs : List Class) (rs : List InForce) (F : List Feature) (D : List Rectangle) (es fs : List Entry) (line : List (List ℕ))
    → flat_map error_lines fs ≡ flat_map error_lines es ++ line ∷ [] → body_of cs rs F D fs ≡ body_of cs rs F D es ++ line ∷ []
errors_more cs rs F D es fs line e =
    deeper (map class_line cs) _ _ _ (deeper (map (rule_line cs) rs) _ _ _ (deeper (map (feature_line cs) F) _ _ _
    (deeper (map dirty_line D) _ _ _ e)))

pub error_more : (es : List Entry) (e : Entry) → e.cells ≡ []
    → flat_map error_lines (es ++ e ∷ []) ≡ flat_map error_lines es ++ error_line e ∷ []
error_more es e bare =
    flat_map-append error_lines es (e ∷ [])
    ∙ ap (λ (cs : List Cell). flat_map error_lines es ++ (error_line e ∷ map cell_line cs ++ [])) bare

pub cell_more : (es : List Entry) (c : Cell) → takes_cell es ≡ true
    → flat_map error_lines (with_cell es c) ≡ flat_map error_lines es ++ cell_line c ∷ []
cell_more [] c t = absurd cc
cell_more (e ∷ []) c t = ap (λ t. error_line e ∷ t) (section_end {A = Cell} cell_line e.cells c [] refl)
cell_more (e ∷ f ∷ es) c t =
    ap (λ t. error_lines e ++ t) (cell_more (f ∷ es) c t)
    ∙ sym (append_assoc (error_lines e) (flat_map error_lines (f ∷ es)) (cell_line c ∷ []))
