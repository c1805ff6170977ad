-- Room behind the last block, and the rectangle that comes there.
use Rattle.std.proofs.Common.{◌≡◌, ◌⊎◌, inl, inr, refl, sym, ap, ◌∙◌, subst, ℕ, zero, suc, ◌+◌, ◌-◌, ◌<◌, List, [], ◌∷◌, ◌++◌, Contains, set, length, get_or, Option, Some, None, Result, Ok, Err, arith, append_assoc, append-nil}
use Rattle.std.proofs.lemmas.List.{map-set, length-set, get_or-set_same, get_or-set_other, set-get_or, length-append}
use Rattle.std.proofs.Math.Seq.{get_or-append_seam}
use Rattle.plane_terms.specs.Rectangle.{Rectangle}
use Rattle.std.specs.Prelude.{IfSome, OnOk, OnErr}
use Rattle.sound_laws.proofs.Edits.{same_or_not}
use Rattle.grid_index.specs.declared.placed.Placed.{Placed}
use Rattle.dirty_area.specs.Indexed.{IsIndexed}
use Rattle.dirty_area.specs.Blocks.{Block, runs, joined, all_rects, HasRoom, LastHasRoom}
use Rattle.dirty_area.proofs.Indexes.{empty_pushed}
use Rattle.dirty_area.proofs.Joins.{run_at, length_runs, joined_pushed, runs_pushed}

pub runs_set : (bs : List Block) (i : ℕ) (b : Block) → runs (set bs i b) ≡ set (runs bs) i b.items
runs_set bs i b = map-set (λ (c : Block). c.items) bs i b

pub same_runs : (bs : List Block) (i : ℕ) (b c : Block) → i < length bs → b ≡ get_or bs i b → c.items ≡ b.items → runs (set bs i c) ≡ runs bs
same_runs bs i b c l is e = runs_set bs i c ∙ (ap (set (runs bs) i) (e ∙ sym (run_at bs i b l is)) ∙ set-get_or (runs bs) i [])

last_joined : (xss : List (List Rectangle)) (k : ℕ) (r : Rectangle) → length xss ≡ suc k
    → joined (set xss k (get_or xss k [] ++ r ∷ [])) ≡ joined xss ++ r ∷ []
last_joined [] k r l = absurd (omega (arith, l))
last_joined (xs ∷ []) zero r l = append-nil (xs ++ r ∷ []) ∙ ap (λ t. t ++ r ∷ []) (sym (append-nil xs))
last_joined (xs ∷ []) (suc k) r l = absurd (omega (arith, l))
last_joined (xs ∷ ys ∷ xss) zero r l = absurd (omega (arith, l))
last_joined (xs ∷ ys ∷ xss) (suc k) r l = ap (λ t. xs ++ t) (last_joined (ys ∷ xss) k r (omega (arith, l)))
    ∙ sym (append_assoc xs (joined (ys ∷ xss)) (r ∷ []))

pub last_put : (bs : List Block) (b c : Block) (r : Rectangle) → 0 < length bs → b ≡ get_or bs (length bs - 1) b → c.items ≡ b.items ++ r ∷ []
    → all_rects (set bs (length bs - 1) c) ≡ all_rects bs ++ r ∷ []
last_put bs b c r l is e =
    let at : get_or (runs bs) (length bs - 1) [] ≡ b.items = run_at bs (length bs - 1) b (omega (arith, l)) is in
    let now : runs (set bs (length bs - 1) c) ≡ set (runs bs) (length bs - 1) (get_or (runs bs) (length bs - 1) [] ++ r ∷ []) =
    runs_set bs (length bs - 1) c ∙ ap (set (runs bs) (length bs - 1)) (e ∙ ap (λ t. t ++ r ∷ []) (sym at)) in
    ap joined now ∙ last_joined (runs bs) (length bs - 1) r (omega (arith, l, length_runs bs))

pub room_set : (bs : List Block) (i : ℕ) (b c : Block) (n m : ℕ) → i < length bs → b ≡ get_or bs i b → (HasRoom b n → HasRoom c m)
    → ((d : Block) → HasRoom d n → HasRoom d m) → LastHasRoom bs n → LastHasRoom (set bs i c) m
room_set bs i b c n m l is keeps fewer room = (subst (λ k. 0 < k) (sym (length-set bs i c)) room.0, last)
  where
    last : (d : Block) → HasRoom (get_or (set bs i c) (length (set bs i c) - 1) d) m
    last d = subst (λ k. HasRoom (get_or (set bs i c) (k - 1) d) m) (sym (length-set bs i c)) (by (same_or_not (length bs - 1) i))
      where
        by : (length bs - 1 ≡ i) ⊎ ((length bs - 1 ≡ i) → ⊥) → HasRoom (get_or (set bs i c) (length bs - 1) d) m
        by (inl e) =
            let here : get_or (set bs i c) (length bs - 1) d ≡ c = ap (λ k. get_or (set bs i c) k d) e ∙ get_or-set_same bs i c d l in
            let was : HasRoom b n = subst (λ x. HasRoom x n) (ap (λ k. get_or bs k b) e ∙ sym is) (room.1 b) in
            subst (λ x. HasRoom x m) (sym here) (keeps was)
        by (inr o) = subst (λ x. HasRoom x m) (sym (get_or-set_other bs i (length bs - 1) c d o)) (fewer (get_or bs (length bs - 1) d) (room.1 d))

pub put_room : (bs : List Block) (b c : Block) (n : ℕ) → 0 < length bs → b ≡ get_or bs (length bs - 1) b → (HasRoom b (n + 1) → HasRoom c n)
    → LastHasRoom bs (n + 1) → LastHasRoom (set bs (length bs - 1) c) n
put_room bs b c n l is keeps room = room_set bs (length bs - 1) b c (n + 1) n (omega (arith, l)) is keeps
    (λ d h. (omega (arith, h.0), omega (arith, h.1))) room

pub last_indexed : (bs : List Block) (b c : Block) (r : Rectangle) (i : ℕ) (o : Option (List Placed)) → i < length bs → b ≡ get_or bs i b
    → c.items ≡ b.items ++ r ∷ [] → IfSome o (λ ps. IsIndexed (set (runs bs) i (get_or (runs bs) i [] ++ r ∷ [])) ps)
    → IfSome o (λ ps. IsIndexed (runs (set bs i c)) ps)
last_indexed bs b c r i o l is e h =
    let now : set (runs bs) i (get_or (runs bs) i [] ++ r ∷ []) ≡ runs (set bs i c) =
    ap (λ t. set (runs bs) i (t ++ r ∷ [])) (run_at bs i b l is) ∙ (ap (set (runs bs) i) (sym e) ∙ sym (runs_set bs i c)) in
    subst (λ xss. IfSome o (λ ps. IsIndexed xss ps)) now h

pub set_indexed : (bs : List Block) (b : Block) (xs : List Rectangle) (i : ℕ) (o : Option (List Placed)) → b.items ≡ xs
    → IfSome o (λ ps. IsIndexed (set (runs bs) i xs) ps) → IfSome o (λ ps. IsIndexed (runs (set bs i b)) ps)
set_indexed bs b xs i o e h = subst (λ xss. IfSome o (λ ps. IsIndexed xss ps)) (ap (set (runs bs) i) (sym e) ∙ sym (runs_set bs i b)) h

pub same_joined : {E : Type 0} (o : Result (Unit {0}) E) (bs cs : List Block) → OnOk o (runs cs ≡ runs bs ++ [] ∷ []) → OnErr o (runs cs ≡ runs bs)
    → all_rects cs ≡ all_rects bs
same_joined (Ok x) bs cs ok err = ap joined ok ∙ (joined_pushed (runs bs) [] ∙ append-nil (all_rects bs))
same_joined (Err x) bs cs ok err = ap joined err

pub same_or_pushed : {E : Type 0} (o : Result (Unit {0}) E) (bs cs : List Block) (ps : List Placed) → OnOk o (runs cs ≡ runs bs ++ [] ∷ [])
    → OnErr o (runs cs ≡ runs bs) → IsIndexed (runs bs) ps → IsIndexed (runs cs) ps
same_or_pushed (Ok x) bs cs ps ok err h = subst (λ xss. IsIndexed xss ps) (sym ok) (empty_pushed (runs bs) ps h)
same_or_pushed (Err x) bs cs ps ok err h = subst (λ xss. IsIndexed xss ps) (sym err) h

-- ---- the dirt after room was made for more
pub index_kept : (bs cs : List Block) (o : Option (List Placed)) → ((ps : List Placed) → IsIndexed (runs bs) ps → IsIndexed (runs cs) ps)
    → IfSome o (λ ps. IsIndexed (runs bs) ps) → IfSome o (λ ps. IsIndexed (runs cs) ps)
index_kept bs cs (Some ps) keeps h = keeps ps h
index_kept bs cs None keeps h = tt

-- ---- a last block that has no rectangle
get_or_empty : (xss : List (List Rectangle)) (k : ℕ) → get_or (xss ++ [] ∷ []) k [] ≡ get_or xss k []
get_or_empty [] zero = refl
get_or_empty [] (suc k) = refl
get_or_empty (xs ∷ xss) zero = refl
get_or_empty (xs ∷ xss) (suc k) = get_or_empty xss k

pub empty_gone : (xss yss : List (List Rectangle)) (ps : List Placed) → xss ≡ yss ++ [] ∷ [] → IsIndexed xss ps → IsIndexed yss ps
empty_gone xss yss ps e indexed q =
    let same : get_or xss q.handle [] ≡ get_or yss q.handle [] = ap (λ zss. get_or zss q.handle []) e ∙ get_or_empty yss q.handle in (
      (λ h. subst (λ zs. Contains zs q.rect) same ((indexed q).0 h)),
      (λ h. (indexed q).1 (subst (λ zs. Contains zs q.rect) (sym same) h)),
    )

pub last_gone : (bs cs : List Block) (b : Block) → bs ≡ cs ++ b ∷ [] → get_or (runs bs) (length bs - 1) [] ≡ [] → runs bs ≡ runs cs ++ [] ∷ []
last_gone bs cs b e none =
    let pushed : runs bs ≡ runs cs ++ b.items ∷ [] = ap runs e ∙ runs_pushed cs b in
    let place : length bs - 1 ≡ length (runs cs) = omega (arith, ap length e, length-append cs (b ∷ []), length_runs cs) in
    let last : get_or (runs bs) (length bs - 1) [] ≡ b.items =
    ap (λ zss. get_or zss (length bs - 1) []) pushed ∙ (ap (λ k. get_or (runs cs ++ b.items ∷ []) k []) place
    ∙ get_or-append_seam (runs cs) b.items [] []) in
    pushed ∙ ap (λ zs. runs cs ++ zs ∷ []) (sym last ∙ none)
