-- What is read of a fix's line is what it spells.
use Rattle.std.proofs.Common.{ℕ, ℤ, zero, suc, ◌≡◌, ◌+◌, List, [], ◌∷◌, ◌++◌, refl, sym, ◌∙◌, ap, subst, Ok, Err, Result, arith}
use Rattle.std.specs.Prelude.{codes, IsTrue, MatchResult, MatchOption, Option, Some, None}
use Rattle.plane_terms.specs.Point.{Place, InReach, IsInReach}
use Rattle.plane_terms.specs.Rectangle.{Rectangle, IsFirstOut}
use Rattle.text_terms.specs.Fields.{is_name, skip_blanks, front_field, behind_field}
use Rattle.text_terms.specs.Numbers.{IsSigned, IsWithinText}
use Rattle.line_terms.specs.Commands as form
use Rattle.line_terms.specs.Commands.{Form, All, Numbers, Command}
use Rattle.line_terms.specs.Forms.{Piece, Word, Name, HasForm, IsLine, pieces, Rest, written, rule_number, handle, end_number, place}
use Rattle.line_terms.specs.Lines.{IsSpelling, IsFaultOf, IsPlaceFault, coordinates}
use Rattle.line_terms.specs.declared.line_refusal.LineRefusal.TheVariants.{OutOfReach}
use Rattle.script_text.specs.Faults.{IsRead}
use Rattle.script_text.specs.Fixes.{AreOf, IsOut, IsNoPlace}
use Rattle.script_text.specs.Groups.{group_of, NoneOf, Fixes}
use Rattle.script_text.specs.Seen.{command_of}
use Rattle.script_text.specs.Wholes.{IsFor, AreFor, StandsFor}
use Rattle.script_text.specs.declared.command.Command as code
use Rattle.script_text.specs.declared.fault.LineFault.{LineFault}
use Rattle.script_text.specs.declared.fault.LineFault.TheVariants.{Refused, NoMemory}
use Rattle.script_text.specs.declared.whole.Whole.{Whole}
use Rattle.script_text.specs.declared.whole.Whole.TheVariants.{Within, Beyond}

abbrev first : List ℕ → List ℕ
first text = front_field (skip_blanks text)

abbrev behind : List ℕ → List ℕ
behind text = behind_field (skip_blanks text)

-- ---- places
pub place_read : (text u v : List ℕ) (a b : Whole) → IsFor a (first text) → u ≡ behind text → IsFor b (first u) → v ≡ behind u
    → skip_blanks v ≡ [] → (q : Place) × IsLine text (place q []) × AreOf a b q
place_read text u v a b f0 e0 f1 e1 over =
    let v1 : v ≡ behind (behind text) = e1 ∙ ap behind e0 in
    let g1 = subst (λ t. IsSigned (first t) f1.0) e0 f1.1 in
    let end = subst (λ t. skip_blanks t ≡ []) v1 over in
    (record { x = f0.0; y = f1.0 }, (f0.1, (g1, end)), record { x_is = f0.2; y_is = f1.2 })

pub no_move : (text rest : List ℕ) → rest ≡ behind text → ((r : Rectangle) → IsLine rest (written (Numbers r)) → ⊥)
    → (q p : Place) → IsLine text (Word (codes "move") ∷ place q (place p [])) → ⊥
no_move text rest e none q p h =
    let r : Rectangle = record { x0 = q.x; y0 = q.y; x1 = p.x; y1 = p.y } in
    none r (subst (λ t. IsLine t (written (Numbers r))) (sym e) h.1)

pub two_places : (text rest : List ℕ) (a b c d : Whole) → first text ≡ codes "move" → rest ≡ behind text
    → (r : Rectangle) × IsLine rest (written (Numbers r)) × AreFor a b c d r
    → (q p : Place) × IsLine text (Word (codes "move") ∷ place q (place p [])) × AreOf a b q × AreOf c d p
two_places text rest a b c d word e h =
    let r = h.0 in
    let last = subst (λ t. IsLine t (written (Numbers r))) e h.1 in (
      record { x = r.x0; y = r.y0 },
      record { x = r.x1; y = r.y1 },
      (word, last),
      record { x_is = h.2.left; y_is = h.2.below },
      record { x_is = h.2.right; y_is = h.2.above },
    )

pub out_x : (n : ℕ) (x y : Whole) (q : Place) (e : LineFault) → AreOf x y q → x ≡ Beyond → e ≡ Refused (OutOfReach n) → IsOut n q e
out_x n x y q e a b h = (0, subst (λ w. StandsFor w q.x) b a.x_is, h ∙ ap (λ k. Refused (OutOfReach k)) (omega arith))

pub out_y : (n : ℕ) (x y : Whole) (z : ℤ) (q : Place) (e : LineFault) → AreOf x y q → x ≡ Within z → y ≡ Beyond
    → e ≡ Refused (OutOfReach (n + 1)) → IsOut n q e
out_y n x y z q e a w b h =
    let k = subst (λ v. StandsFor v q.x) w a.x_is in
    (1, (k.1, subst (λ v. StandsFor v q.y) b a.y_is), h)

pub place_made : (x y : Whole) (u v : ℤ) (p q : Place) → AreOf x y q → x ≡ Within u → y ≡ Within v → p.x ≡ u → p.y ≡ v
    → (p ≡ q) × IsInReach q
place_made x y u v p q a b c d e =
    let k = subst (λ w. StandsFor w q.x) b a.x_is in
    let l = subst (λ w. StandsFor w q.y) c a.y_is in
    let i0 : p.x ≡ q.x = d ∙ k.0 in
    let j0 : p.y ≡ q.y = e ∙ l.0 in
    ((λ i. record { x = i0 i; y = j0 i }), record { x = k.1; y = l.1 })

pub out_fault : (q : Place) (e : LineFault) → IsOut 0 q e → IsNoPlace (coordinates q) e
out_fault q e o =
    let same : 0 + o.0 ≡ o.0 = omega arith in
    subst (IsNoPlace (coordinates q)) (sym o.2) (subst (λ k. IsFirstOut k (coordinates q)) (sym same) o.1)

out_front : (k : ℕ) (q p : Place) → IsFirstOut k (coordinates q) → IsFirstOut k (coordinates q ++ coordinates p)
out_front zero q p h = h
out_front (suc zero) q p h = h
out_front (suc (suc k)) q p h = absurd h.1.1

pub first_fault : (q p : Place) (e : LineFault) → IsOut 0 q e → IsNoPlace (coordinates q ++ coordinates p) e
first_fault q p e o =
    let same : 0 + o.0 ≡ o.0 = omega arith in
    subst (IsNoPlace (coordinates q ++ coordinates p)) (sym o.2)
    (subst (λ k. IsFirstOut k (coordinates q ++ coordinates p)) (sym same) (out_front o.0 q p o.1))

pub second_fault : (q p : Place) (e : LineFault) → IsInReach q → IsOut 2 p e → IsNoPlace (coordinates q ++ coordinates p) e
second_fault q p e w o =
    let same : 2 + o.0 ≡ suc (suc o.0) = omega arith in
    let out : IsFirstOut (suc (suc o.0)) (coordinates q ++ coordinates p) = (w.x, (w.y, o.1)) in
    subst (IsNoPlace (coordinates q ++ coordinates p)) (sym o.2)
    (subst (λ k. IsFirstOut k (coordinates q ++ coordinates p)) (sym same) out)

-- ---- behind the editor
pub snap_line : (text t u v w : List ℕ) (r h i : ℕ) (q : Place) → first text ≡ codes "snap" → t ≡ behind text
    → IsWithinText 1 65535 (first t) r → u ≡ behind t → IsWithinText 1 4294967295 (first u) h → v ≡ behind u
    → IsWithinText 0 4294967295 (first v) i → w ≡ behind v → IsLine w (place q [])
    → IsLine text (Word (codes "snap") ∷ rule_number r ∷ handle h ∷ end_number i ∷ place q [])
snap_line text t u v w r h i q word e0 a e1 b e2 c e3 last =
    let k : IsLine v (end_number i ∷ place q []) = (c, subst (λ x. IsLine x (place q [])) e3 last) in
    let l : IsLine u (handle h ∷ end_number i ∷ place q []) = (b, subst (λ x. IsLine x (end_number i ∷ place q [])) e2 k) in
    let m : IsLine t (rule_number r ∷ handle h ∷ end_number i ∷ place q []) =
    (a, subst (λ x. IsLine x (handle h ∷ end_number i ∷ place q [])) e1 l) in
    (word, subst (λ x. IsLine x (rule_number r ∷ handle h ∷ end_number i ∷ place q [])) e0 m)

pub create_line : (text t u v : List ℕ) (r h : ℕ) (q : Place) → first text ≡ codes "create" → t ≡ behind text
    → IsWithinText 1 65535 (first t) r → u ≡ behind t → IsWithinText 1 4294967295 (first u) h → v ≡ behind u → IsLine v (place q [])
    → IsLine text (Word (codes "create") ∷ rule_number r ∷ handle h ∷ place q [])
create_line text t u v r h q word e0 a e1 b e2 last =
    let k : IsLine u (handle h ∷ place q []) = (b, subst (λ x. IsLine x (place q [])) e2 last) in
    let l : IsLine t (rule_number r ∷ handle h ∷ place q []) = (a, subst (λ x. IsLine x (handle h ∷ place q [])) e1 k) in
    (word, subst (λ x. IsLine x (rule_number r ∷ handle h ∷ place q [])) e0 l)

-- ---- the whole line
pub record IsBy (line rest more n : List ℕ) : Type 0 where
  pub word : first line ≡ codes "by"
  pub rest_is : rest ≡ behind line
  pub name : first rest ≡ n
  pub good : IsTrue (is_name n)
  pub more_is : more ≡ behind rest

by_there : (line rest more n : List ℕ) (ps : List Piece) → IsBy line rest more n → IsLine more ps
    → IsLine line (Word (codes "by") ∷ Name n ∷ ps)
by_there line rest more n ps b h =
    let named = subst (λ t. first t ≡ n) b.rest_is b.name in
    (b.word, ((named, b.good), subst (λ t. IsLine t ps) (b.more_is ∙ ap behind b.rest_is) h))

by_behind : (line rest more n m : List ℕ) (ps : List Piece) → IsBy line rest more n → IsLine line (Word (codes "by") ∷ Name m ∷ ps)
    → IsLine more ps
by_behind line rest more n m ps b h = subst (λ t. IsLine t ps) (sym (b.more_is ∙ ap behind b.rest_is)) h.1.1

pub explode_read : (line rest more n : List ℕ) (h : ℕ) (c : code.Command) → IsBy line rest more n
    → IsLine more (Word (codes "explode") ∷ handle h ∷ []) → command_of c ≡ form.Explode n h → IsRead line (Ok c)
explode_read line rest more n h c b l e =
    subst (IsSpelling line) (sym e) (record {
      text = [];
      window = All;
      spelled = by_there line rest more n (Word (codes "explode") ∷ handle h ∷ []) b l;
      meant = tt;
    })

pub snap_read : (line rest more n : List ℕ) (r h i : ℕ) (q : Place) (x : Result code.Command LineFault) → IsBy line rest more n
    → IsLine more (Word (codes "snap") ∷ rule_number r ∷ handle h ∷ end_number i ∷ place q [])
    → MatchResult x (λ c. (command_of c ≡ form.Snap n r h i q) × IsInReach q) (IsNoPlace (coordinates q)) → IsRead line x
snap_read line rest more n r h i q (Ok c) b l m =
    let ps = Word (codes "snap") ∷ rule_number r ∷ handle h ∷ end_number i ∷ place q [] in
    subst (IsSpelling line) (sym m.0) (record { text = []; window = All; spelled = by_there line rest more n ps b l; meant = m.1 })
snap_read line rest more n r h i q (Err (Refused f)) b l m =
    let ps = Word (codes "snap") ∷ rule_number r ∷ handle h ∷ end_number i ∷ place q [] in
    (form.Snap n r h i q, by_there line rest more n ps b l, m)
snap_read line rest more n r h i q (Err NoMemory) b l m = tt

pub create_read : (line rest more n : List ℕ) (r h : ℕ) (q : Place) (x : Result code.Command LineFault) → IsBy line rest more n
    → IsLine more (Word (codes "create") ∷ rule_number r ∷ handle h ∷ place q [])
    → MatchResult x (λ c. (command_of c ≡ form.Create n r h q) × IsInReach q) (IsNoPlace (coordinates q)) → IsRead line x
create_read line rest more n r h q (Ok c) b l m =
    let ps = Word (codes "create") ∷ rule_number r ∷ handle h ∷ place q [] in
    subst (IsSpelling line) (sym m.0) (record { text = []; window = All; spelled = by_there line rest more n ps b l; meant = m.1 })
create_read line rest more n r h q (Err (Refused f)) b l m =
    let ps = Word (codes "create") ∷ rule_number r ∷ handle h ∷ place q [] in
    (form.Create n r h q, by_there line rest more n ps b l, m)
create_read line rest more n r h q (Err NoMemory) b l m = tt

pub move_read : (line rest more n : List ℕ) (q p : Place) (x : Result code.Command LineFault) → IsBy line rest more n
    → IsLine more (Word (codes "move") ∷ place q (place p []))
    → MatchResult x (λ c. (command_of c ≡ form.Move n q p) × IsInReach q × IsInReach p) (IsNoPlace (coordinates q ++ coordinates p))
    → IsRead line x
move_read line rest more n q p (Ok c) b l m =
    let ps = Word (codes "move") ∷ place q (place p []) in
    subst (IsSpelling line) (sym m.0) (record { text = []; window = All; spelled = by_there line rest more n ps b l; meant = (m.1, m.2) })
move_read line rest more n q p (Err (Refused f)) b l m =
    let ps = Word (codes "move") ∷ place q (place p []) in
    (form.Move n q p, by_there line rest more n ps b l, m)
move_read line rest more n q p (Err NoMemory) b l m = tt

pub no_fixes : (line rest more n : List ℕ) → IsBy line rest more n
    → ((h : ℕ) → IsLine more (Word (codes "explode") ∷ handle h ∷ []) → ⊥)
    → ((r h i : ℕ) (q : Place) → IsLine more (Word (codes "snap") ∷ rule_number r ∷ handle h ∷ end_number i ∷ place q []) → ⊥)
    → ((r h : ℕ) (q : Place) → IsLine more (Word (codes "create") ∷ rule_number r ∷ handle h ∷ place q []) → ⊥)
    → ((q p : Place) → IsLine more (Word (codes "move") ∷ place q (place p [])) → ⊥)
    → NoneOf Fixes line
no_fixes line rest more n b explode snap create move (form.Explode e h) g p =
    explode h (by_behind line rest more n e (Word (codes "explode") ∷ handle h ∷ []) b p)
no_fixes line rest more n b explode snap create move (form.Snap e r h i q) g p =
    snap r h i q (by_behind line rest more n e (Word (codes "snap") ∷ rule_number r ∷ handle h ∷ end_number i ∷ place q []) b p)
no_fixes line rest more n b explode snap create move (form.Create e r h q) g p =
    create r h q (by_behind line rest more n e (Word (codes "create") ∷ rule_number r ∷ handle h ∷ place q []) b p)
no_fixes line rest more n b explode snap create move (form.Move e q s) g p =
    move q s (by_behind line rest more n e (Word (codes "move") ∷ place q (place s [])) b p)
no_fixes line rest more n b explode snap create move f g p = absurd cc

pub no_by : (line : List ℕ) → (first line ≡ codes "by" → ⊥) → NoneOf Fixes line
no_by line none (form.Explode e h) g p = none p.0
no_by line none (form.Snap e r h i q) g p = none p.0
no_by line none (form.Create e r h q) g p = none p.0
no_by line none (form.Move e q s) g p = none p.0
no_by line none f g p = absurd cc

named : (line rest n : List ℕ) → rest ≡ behind line → (first (behind line) ≡ n) × IsTrue (is_name n) → IsTrue (is_name (first rest))
named line rest n e k = subst (λ t. IsTrue (is_name (first t))) (sym e) (subst (λ m. IsTrue (is_name m)) (sym k.0) k.1)

pub no_editor : (line rest : List ℕ) → rest ≡ behind line → (IsTrue (is_name (first rest)) → ⊥) → NoneOf Fixes line
no_editor line rest e none (form.Explode n h) g p = none (named line rest n e p.1.0)
no_editor line rest e none (form.Snap n r h i q) g p = none (named line rest n e p.1.0)
no_editor line rest e none (form.Create n r h q) g p = none (named line rest n e p.1.0)
no_editor line rest e none (form.Move n q s) g p = none (named line rest n e p.1.0)
no_editor line rest e none f g p = absurd cc

-- ---- a line that is none
pub no_snap : (text t u v w : List ℕ) → t ≡ behind text → u ≡ behind t → v ≡ behind u → w ≡ behind v
    → ((q : Place) → IsLine w (place q []) → ⊥) → (r h i : ℕ) (q : Place)
    → IsLine text (Word (codes "snap") ∷ rule_number r ∷ handle h ∷ end_number i ∷ place q []) → ⊥
no_snap text t u v w e0 e1 e2 e3 none r h i q p =
    let at : w ≡ behind (behind (behind (behind text))) = e3 ∙ ap behind (e2 ∙ ap behind (e1 ∙ ap behind e0)) in
    none q (subst (λ x. IsLine x (place q [])) (sym at) p.1.1.1.1)

pub no_create : (text t u v : List ℕ) → t ≡ behind text → u ≡ behind t → v ≡ behind u → ((q : Place) → IsLine v (place q []) → ⊥)
    → (r h : ℕ) (q : Place) → IsLine text (Word (codes "create") ∷ rule_number r ∷ handle h ∷ place q []) → ⊥
no_create text t u v e0 e1 e2 none r h q p =
    let at : v ≡ behind (behind (behind text)) = e2 ∙ ap behind (e1 ∙ ap behind e0) in
    none q (subst (λ x. IsLine x (place q [])) (sym at) p.1.1.1)

pub move_found : (text rest : List ℕ) (o : Option (Whole × Whole × Whole × Whole)) → first text ≡ codes "move" → rest ≡ behind text
    → MatchOption o ((r : Rectangle) → IsLine rest (written (Numbers r)) → ⊥)
    (λ x. (r : Rectangle) × IsLine rest (written (Numbers r)) × AreFor x.0 x.1 x.2 x.3 r)
    → MatchOption o ((q p : Place) → IsLine text (Word (codes "move") ∷ place q (place p [])) → ⊥)
    (λ x. (q p : Place) × IsLine text (Word (codes "move") ∷ place q (place p [])) × AreOf x.0 x.1 q × AreOf x.2 x.3 p)
move_found text rest None word e m = no_move text rest e m
move_found text rest (Some x) word e m = two_places text rest x.0 x.1 x.2 x.3 word e m
