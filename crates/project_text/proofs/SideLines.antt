-- What the lines of rules and features say of sides is spelled in one way.
use Rattle.std.proofs.Common.{ℕ, ℤ, ◌≡◌, Bool, false, List, [], ◌∷◌, Option, Some, None, refl, ap, subst}
use Rattle.std.proofs.lemmas.Option.{same_Some}
use Rattle.rule_words.specs.Table.{word_of, first_of_word, all_rules}
use Rattle.project_terms.specs.Lines.{number, joined}
use Rattle.project_terms.specs.Verdicts.{SideForm, RuleForm, FeatureForm, side_form, own_form, is_0, second_of, rule_of, feature_of}
use Rattle.project_text.proofs.Spelled.{bound, mapped, rule_spelled}
use Rattle.project_text.proofs.Sides.{IsSideField, side_said, own_said}

-- the second side's field
abbrev pub IsSecond : Bool → List (List ℕ) → Option SideForm → Type 0
IsSecond typed fs None = fs ≡ []
IsSecond typed fs (Some a) = (field : List ℕ) × (fs ≡ field ∷ []) × IsSideField typed field a

pub record IsRuleLine (typed : Bool) (fs : List (List ℕ)) (q : RuleForm) : Type 0 where
  pub numeral : List ℕ
  pub number : number numeral ≡ Some q.number
  pub field : List ℕ
  pub origin : IsSideField typed field q.origin
  pub more : List (List ℕ)
  pub dest : IsSecond typed more q.dest
  pub spelled : fs ≡ numeral ∷ word_of q.kind ∷ field ∷ more

second_said : (typed : Bool) (fs : List (List ℕ)) (o : Option SideForm) → second_of typed fs ≡ Some o → IsSecond typed fs o
second_said typed [] o e = subst (IsSecond typed []) (same_Some None o e) refl
second_said typed (n ∷ []) o e =
    let m = mapped (λ (a : SideForm). Some a) (side_form typed n) o e in
    subst (IsSecond typed (n ∷ [])) m.2 (n, refl, side_said typed n m.0 m.1)
second_said typed (n ∷ m ∷ fs) o e = absurd cc

pub rule_said : (typed : Bool) (fs : List (List ℕ)) (q : RuleForm) → rule_of typed fs ≡ Some q → IsRuleLine typed fs q
rule_said typed [] q e = absurd cc
rule_said typed (r ∷ []) q e = absurd cc
rule_said typed (r ∷ w ∷ []) q e = absurd cc
rule_said typed (r ∷ w ∷ n ∷ fs) q e =
    let a = bound (number r) _ q e in
    let b = bound (first_of_word w all_rules) _ q a.2 in
    let c = bound (second_of typed fs) _ q b.2 in
    let put : SideForm → RuleForm = λ x. record { number = a.0; kind = b.0; origin = x; dest = c.0 } in
    let m = mapped put (side_form typed n) q c.2 in
    subst (IsRuleLine typed (r ∷ w ∷ n ∷ fs)) m.2 (record {
      numeral = r;
      number = a.1;
      field = n;
      origin = side_said typed n m.0 m.1;
      more = fs;
      dest = second_said typed fs c.0 c.1;
      spelled = ap (λ x. r ∷ x ∷ n ∷ fs) (rule_spelled w b.0 b.1);
    })

pub record IsFeatureLine (typed : Bool) (fs : List (List ℕ)) (f : FeatureForm) : Type 0 where
  pub numeral : List ℕ
  pub number : number numeral ≡ Some f.handle
  pub field : List ℕ
  pub own : IsSideField typed field f.own
  pub other : is_0 f.own.subtype ≡ false
  pub spelled : (w : List ℕ) → joined (w ∷ fs) ≡ joined (w ∷ numeral ∷ field ∷ f.wkt ∷ [])

pub feature_said : (typed : Bool) (fs : List (List ℕ)) (f : FeatureForm) → feature_of typed fs ≡ Some f → IsFeatureLine typed fs f
feature_said typed [] f e = absurd cc
feature_said typed (h ∷ []) f e = absurd cc
feature_said typed (h ∷ n ∷ []) f e = absurd cc
feature_said typed (h ∷ n ∷ g ∷ fs) f e =
    let b = bound (own_form typed n) _ f e in
    let put : ℤ → FeatureForm = λ z. record { handle = z; own = b.0; wkt = joined (g ∷ fs) } in
    let m = mapped put (number h) f b.2 in
    let o = own_said typed n b.0 b.1 in
    subst (IsFeatureLine typed (h ∷ n ∷ g ∷ fs)) m.2
    (record { numeral = h; number = m.1; field = n; own = o.0; other = o.1; spelled = λ w. refl })
