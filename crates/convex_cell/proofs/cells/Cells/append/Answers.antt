use Rattle.std.proofs.Common.{◌≡◌, ◌∙◌, ◌++◌, ◌+◌, ◌<◌, ◌^◌, ℕ, List, All, length, map, arith, ap, sym, subst}
use Rattle.plane_terms.specs.Cell.{Cell}
use Rattle.convex_cell.specs.Flat.{cells_at}
use Rattle.convex_cell.proofs.Flats.{ends_fit, ends_append, cells_append}
use Rattle.convex_cell.proofs.cells.Cells.append.Goals as goal

pub push_ends-requires : goal.push_ends-requires
push_ends-requires c =
    let hs : Cell = c.self.inside.halves.items in
    let ms : Cell = c.more.inside.halves.items in
    let fs : List ℕ = c.more.inside.ends.items in
    let n = c.len-len.result in
    let room : n + length ms < 2 ^ 64 = omega (arith, c.len-len.ensures, c.self.inside.halves.small, c.more.inside.halves.small) in
    subst (λ (es : List ℕ). All (λ e. n + e < 2 ^ 64) es) (sym c.deref-2.ensures.value) (ends_fit n (2 ^ 64) (length ms) fs c.more.invariant room)

pub invariant_of-self-in_default : goal.invariant_of-self-in_default
invariant_of-self-in_default c =
    let hs : Cell = c.self.inside.halves.items in
    let ms : Cell = c.more.inside.halves.items in
    let es : List ℕ = c.self.inside.ends.items in
    let fs : List ℕ = c.more.inside.ends.items in
    let long : c.len-len.result ≡ length hs = omega (arith, c.len-len.ensures) in
    let all : c.extend_from_slice.new.self.items ≡ hs ++ ms = c.in_ok-extend_from_slice.ensures.items ∙ ap (λ (xs : Cell). hs ++ xs) c.deref.ensures.value in
    let ends : c.push_ends.new.ends.items ≡ es ++ map {A = ℕ} (λ e. length hs + e) fs =
    rw (← long) (c.in_default.ensures.ok ∙ ap (λ (xs : List ℕ). es ++ map {A = ℕ} (λ e. c.len-len.result + e) xs) c.deref-2.ensures.value) in
    ends_append hs c.extend_from_slice.new.self.items ms es c.push_ends.new.ends.items fs c.self.invariant c.more.invariant all ends

pub returns-clause-ok : goal.returns-clause-ok
returns-clause-ok c =
    let hs : Cell = c.self.inside.halves.items in
    let ms : Cell = c.more.inside.halves.items in
    let es : List ℕ = c.self.inside.ends.items in
    let fs : List ℕ = c.more.inside.ends.items in
    let long : c.len-len.result ≡ length hs = omega (arith, c.len-len.ensures) in
    let all : c.extend_from_slice.new.self.items ≡ hs ++ ms = c.in_ok-extend_from_slice.ensures.items ∙ ap (λ (xs : Cell). hs ++ xs) c.deref.ensures.value in
    let ends : c.push_ends.new.ends.items ≡ es ++ map {A = ℕ} (λ e. length hs + e) fs =
    rw (← long) (c.in_default.ensures.ok ∙ ap (λ (xs : List ℕ). es ++ map {A = ℕ} (λ e. c.len-len.result + e) xs) c.deref-2.ensures.value) in
    cells_append hs c.extend_from_slice.new.self.items ms es c.push_ends.new.ends.items fs c.self.invariant all ends
    ∙ (ap (λ (cs : List Cell). cs ++ cells_at ms 0 fs) c.self.view_is ∙ ap (λ (cs : List Cell). c.args.self.now ++ cs) c.more.view_is)
