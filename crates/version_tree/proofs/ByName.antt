-- What a reconcile and a post leave, by the names of the versions.
use Rattle.std.proofs.Common.{◌≡◌, ◌≢◌, inl, inr, ℕ, zero, suc, ◌+◌, Bool, true, false, List, [], ◌∷◌, Option, Some, None, refl, sym, ◌∙◌, ap, subst, arith}
use Rattle.std.specs.Prelude.{slice_get, bytes_eq, option_and_then, if◌then◌else◌}
use Rattle.std.specs.Option.{option_map}
use Rattle.std.proofs.lemmas.Slice.Eq.{bytes_eq-Decides}
use Rattle.topology_terms.specs.Feature.{Feature}
use Rattle.topology_terms.specs.Project.{Project}
use Rattle.sound_laws.proofs.Edits.{same_or_not}
use Rattle.version_terms.specs.declared.place.Place.{Place}
use Rattle.version_terms.specs.declared.place.Place.TheVariants.{Current, Other}
use Rattle.version_terms.specs.Versions.{Version, Tree, all_of, default_name, index_from, place_of, version_at, version_of, with_at, root_of, project_in}
use Rattle.version_terms.specs.VersionChanges.{Becomes, BecomesAt, IsPosted, IsPostedTo, IsReconciled, IsReconciledTo, IsSetTo, LeavesProject, based, greatest_next, raised, raised_version}
use Rattle.version_tree.specs.ByName.{IsMergedByName, IsPostedByName}
use Rattle.version_tree.proofs.Becoming.{root_at}
use Rattle.version_tree.proofs.Merges.{became_at, get_off}
use Rattle.version_tree.proofs.Posts.{place_becomes}

-- ---- the version at the place of a name has the name
record NamedAt (n : ℕ) (vs : List Version) (name : List ℕ) (m : ℕ) : Type 0 where
  pub index : ℕ
  pub counted : m ≡ n + index
  pub named : (v : Version) → slice_get vs index ≡ Some v → v.name ≡ name

index_named : (n : ℕ) (vs : List Version) (name : List ℕ) (m : ℕ) → index_from n vs name ≡ Some m → NamedAt n vs name m
index_named n [] name m e = cc
index_named n (o ∷ os) name m e = by (bytes_eq o.name name) refl e (index_named (n + 1) os name m)
  where
    by : (b : Bool) → bytes_eq o.name name ≡ b → (if b then Some n else index_from (n + 1) os name) ≡ Some m
        → (index_from (n + 1) os name ≡ Some m → NamedAt (n + 1) os name m) → NamedAt n (o ∷ os) name m
    by true t e r =
        let s : n ≡ m = cc in
        record {
          index = 0;
          counted = omega (arith, s);
          named = λ v g. let h : Some o ≡ Some v = g in let same : o ≡ v = cc in ap (λ (x : Version). x.name) (sym same) ∙ (bytes_eq-Decides o.name name).0 t;
        }
    by false t e r =
        let k = r e in
        let c = k.counted in
        record { index = suc k.index; counted = omega (arith, c); named = k.named }

place_named : (t : Tree) (name : List ℕ) (i : Place) (v : Version) → place_of t name ≡ Some i → version_at t i ≡ Some v → v.name ≡ name
place_named t name i v e g = by (bytes_eq t.current.name name) refl e
  where
    there : (o : Option ℕ) → index_from 0 t.others name ≡ o → option_map (λ (k : ℕ). Other k) o ≡ Some i → v.name ≡ name
    there None f e = cc
    there (Some k) f e =
        let s : Other k ≡ i = cc in
        let h : slice_get t.others k ≡ Some v = subst (λ (j : Place). version_at t j ≡ Some v) (sym s) g in
        let n = index_named 0 t.others name k f in
        let c : k ≡ n.index = (let d = n.counted in omega (arith, d)) in
        n.named v (subst (λ (j : ℕ). slice_get t.others j ≡ Some v) c h)

    by : (b : Bool) → bytes_eq t.current.name name ≡ b
        → (if b then Some Current else option_map (λ (k : ℕ). Other k) (index_from 0 t.others name)) ≡ Some i → v.name ≡ name
    by true c e =
        let s : Current ≡ i = cc in
        let h : Some t.current ≡ Some v = subst (λ (j : Place). version_at t j ≡ Some v) (sym s) g in
        let same : t.current ≡ v = cc in
        ap (λ (x : Version). x.name) (sym same) ∙ (bytes_eq-Decides t.current.name name).0 c
    by false c e = there (index_from 0 t.others name) refl e

-- ---- another place
other_at : (t : Tree) (i j : Place) (w : Version) → i ≢ j → version_at (with_at t i w) j ≡ version_at t j
other_at t Current Current w d = absurd (d refl)
other_at t Current (Other k) w d = refl
other_at t (Other n) Current w d = refl
other_at t (Other n) (Other k) w d = get_off t.others n k w (λ e. d (ap (λ m. Other m) (sym e)))

projects_at : (t : Tree) (i : Place) (v w : Version) → version_at t i ≡ Some v → w.project ≡ v.project → (o : Option Place)
    → project_in (option_and_then (version_at (with_at t i w)) o) ≡ project_in (option_and_then (version_at t) o)
projects_at t i v w g e None = refl
projects_at t Current v w g e (Some Current) =
    let s : t.current ≡ v = cc in e ∙ ap (λ (x : Version). x.project) (sym s)
projects_at t Current v w g e (Some (Other j)) = refl
projects_at t (Other k) v w g e (Some Current) = refl
projects_at t (Other k) v w g e (Some (Other j)) = elim (same_or_not j k) [
  | inl s ↦
      let here = became_at (λ x y. y ≡ w) (Other k) t (with_at t (Other k) w) (record { was = v; is = w; there = g; changed = refl; tree = refl }) in
      subst (λ n. project_in (version_at (with_at t (Other k) w) (Other n)) ≡ project_in (version_at t (Other n))) (sym s)
      (ap project_in here ∙ (e ∙ sym (ap project_in g)))
  | inr d ↦ ap project_in (get_off t.others k j w d)
]

-- ---- one version becomes another; the names stay
module _ (P : Version → Version → Type 0) (name : List ℕ) (t u : Tree) (keeps : (v w : Version) → P v w → w.name ≡ v.name)
    (b : Becomes name P t u) where
  places : (other : List ℕ) → place_of u other ≡ place_of t other
  places other = place_becomes P b.place t u other keeps b.at

  was_there : version_of t name ≡ Some b.at.was
  was_there = rw b.found b.at.there

  is_there : version_of u name ≡ Some b.at.is
  is_there = ap (option_and_then (version_at u)) (places name ∙ b.found) ∙ became_at P b.place t u b.at

  others_stay : (other : List ℕ) → other ≢ name → version_of u other ≡ version_of t other
  others_stay other d = ap (option_and_then (version_at u)) (places other) ∙ by (place_of t other) refl
    where
      by : (o : Option Place) → place_of t other ≡ o → option_and_then (version_at u) o ≡ option_and_then (version_at t) o
      by None e = refl
      by (Some j) e = ap (λ (x : Tree). version_at x j) b.at.tree
          ∙ other_at t b.place j b.at.is (λ s. d (sym (place_named t other j b.at.was e
          (subst (λ (k : Place). version_at t k ≡ Some b.at.was) s b.at.there)) ∙ place_named t name b.place b.at.was b.found b.at.there))

  root_stays : ((v w : Version) → P v w → w.project ≡ v.project) → root_of u ≡ root_of t
  root_stays f = ap project_in (ap (option_and_then (version_at u)) (places default_name))
      ∙ (ap (λ (x : Tree). project_in (option_and_then (version_at x) (place_of t default_name))) b.at.tree
      ∙ projects_at t b.place b.at.was b.at.is b.at.there (f b.at.was b.at.is b.at.changed) (place_of t default_name))

-- ---- a reconcile
pub merged_by_name : (name : List ℕ) (n : ℕ) (hs : List ℕ) (t u : Tree) → IsReconciled name n hs t u → IsMergedByName name n hs t u
merged_by_name name n hs t u b =
    let P : Version → Version → Type 0 =
    λ v w. IsReconciledTo (root_of t).features n hs (raised_version (greatest_next (all_of t)) v) w in
    let keeps : (v w : Version) → P v w → w.name ≡ v.name = λ v w p. p.name in
    let c = b.at.changed in
    record {
      was = b.at.was;
      is = b.at.is;
      had = c.had;
      there = was_there P name t u keeps b;
      now = is_there P name t u keeps b;
      base = c.base;
      merge = c.merge.merged;
      named = c.merge.named;
      taken = c.merge.set;
      new_base = c.new_base;
      others = others_stay P name t u keeps b;
    }

-- ---- a post
some_same : {A : Type 0} (o : Option A) (x y : A) → o ≡ Some x → o ≡ Some y → x ≡ y
some_same o x y e f = let g : Some x ≡ Some y = sym e ∙ f in cc

pub posted_by_name : (name : List ℕ) (n : ℕ) (t u : Tree) → IsPosted name n t u → IsPostedByName name n t u
posted_by_name name n t u k =
    let F = k.version.project.features in
    let P : Version → Version → Type 0 = LeavesProject (λ p q. IsPostedTo F n (raised (greatest_next (all_of t)) p) q) in
    let Q : Version → Version → Type 0 = λ v w. w ≡ based F v in
    let first : (v w : Version) → P v w → w.name ≡ v.name = λ v w p. p.name in
    let second : (v w : Version) → Q v w → w.name ≡ v.name = λ v w e. ap (λ (x : Version). x.name) e in
    let root : root_of u ≡ k.root.at.is.project =
    root_stays Q name k.middle u second k.base (λ v w e. ap (λ (x : Version). x.project) e)
    ∙ ap project_in (is_there P default_name t k.middle first k.root) in
    let set : IsPostedTo F n (raised (greatest_next (all_of t)) (root_of t)) k.root.at.is.project =
    subst (λ (p : Project). IsPostedTo F n (raised (greatest_next (all_of t)) p) k.root.at.is.project)
    (sym (root_at t k.root.place k.root.at.was k.root.found k.root.at.there)) k.root.at.changed.project in
    let between : version_of k.middle name ≡ Some k.base.at.was = was_there Q name k.middle u second k.base in
    let kept : k.base.at.was.project.features ≡ F = by (bytes_eq name default_name) refl between root set in
    record {
      was = k.version;
      is = k.base.at.is;
      had = k.had;
      there = k.there;
      now = is_there Q name k.middle u second k.base;
      base = k.base_was;
      fresh = k.fresh;
      root = ap (λ (p : Project). p.features) root ∙ set.features;
      features = ap (λ (x : Version). x.project.features) k.base.at.changed ∙ kept;
      new_base = ap (λ (x : Version). x.base) k.base.at.changed;
      taken = subst (λ (q : Project). IsSetTo F n (raised (greatest_next (all_of t)) (root_of t)) q) (sym root) set.set;
      others = λ other a b. others_stay Q name k.middle u second k.base other a
          ∙ others_stay P default_name t k.middle first k.root other b;
    }
  where
    by : (b : Bool) → bytes_eq name default_name ≡ b → version_of k.middle name ≡ Some k.base.at.was
        → root_of u ≡ k.root.at.is.project
        → IsPostedTo k.version.project.features n (raised (greatest_next (all_of t)) (root_of t)) k.root.at.is.project
        → k.base.at.was.project.features ≡ k.version.project.features
    by true e between root set =
        let same : name ≡ default_name = (bytes_eq-Decides name default_name).0 e in
        let here : root_of k.middle ≡ k.base.at.was.project =
        ap project_in (subst (λ (m : List ℕ). version_of k.middle m ≡ Some k.base.at.was) same between) in
        let there : root_of k.middle ≡ k.root.at.is.project =
        ap project_in (is_there (LeavesProject (λ p q. IsPostedTo k.version.project.features n (raised (greatest_next (all_of t)) p) q))
        default_name t k.middle (λ v w p. p.name) k.root) in
        ap (λ (p : Project). p.features) (sym here ∙ there) ∙ set.features
    by false e between root set =
        let apart : name ≢ default_name = λ s. (let y : bytes_eq name default_name ≡ true = (bytes_eq-Decides name default_name).1 s in cc) in
        let stays = others_stay (LeavesProject (λ p q. IsPostedTo k.version.project.features n (raised (greatest_next (all_of t)) p) q))
        default_name t k.middle (λ v w p. p.name) k.root name apart in
        ap (λ (v : Version). v.project.features) (some_same (version_of k.middle name) k.base.at.was k.version between (stays ∙ k.there))
