-- The innermost point among marks with the outermost first, which is sought from the last one on.
use Rattle.std.proofs.Common.{◌≡◌, ℕ, zero, suc, ◌+◌, ◌-◌, ◌<◌, ◌≤◌, true, false, refl, List, [], ◌∷◌, ◌++◌, length, take, drop, get_or, Bool, cond, ap, sym, ◌∙◌, arith}
use Rattle.std.specs.Prelude.{reverse, slice_index_or, slice_set}
use Rattle.std.proofs.lemmas.List.{append_assoc, append-nil, drop_more, reverse-append, take_more}
use Rattle.dfdl_grammar.specs.declared.mark.Mark.{Mark}
use Rattle.dfdl_grammar.specs.Marks.{are_initiated, resolved_among}
use Rattle.dfdl_parse.specs.Resolving.{is_initiated_at, resolved_at}

-- the marks from a place on are no points
pub record IsLeft (marks : List Mark) (left : ℕ) : Type 0 where
  pub resolved : resolved_among (reverse marks) ≡ reverse (drop left marks) ++ resolved_among (reverse (take left marks))
  pub initiated : are_initiated (reverse marks) ≡ are_initiated (reverse (take left marks))

take-all : (marks : List Mark) → take (length marks) marks ≡ marks
take-all [] = refl
take-all (mark ∷ rest) = ap (λ (ms : List Mark). mark ∷ ms) (take-all rest)

drop-all : (marks : List Mark) → drop (length marks) marks ≡ []
drop-all [] = refl
drop-all (mark ∷ rest) = drop-all rest

pub all-left : (marks : List Mark) (left : ℕ) → left ≡ length marks → IsLeft marks left
all-left marks left is =
    let front : take left marks ≡ marks = ap (λ (n : ℕ). take n marks) is ∙ take-all marks in
    let behind : drop left marks ≡ [] = ap (λ (n : ℕ). drop n marks) is ∙ drop-all marks in
    record {
      resolved = sym (ap (λ (ms : List Mark). reverse ms ++ resolved_among (reverse (take left marks))) behind
          ∙ ap (λ (ms : List Mark). resolved_among (reverse ms)) front);
      initiated = sym (ap (λ (ms : List Mark). are_initiated (reverse ms)) front);
    }

pub none-left : (marks : List Mark) (left : ℕ) → left ≡ 0 → IsLeft marks left → resolved_among (reverse marks) ≡ reverse marks
none-left marks left is before =
    before.resolved ∙ ap (λ (n : ℕ). reverse (drop n marks) ++ resolved_among (reverse (take n marks))) is ∙ append-nil (reverse marks)

pub never-left : (marks : List Mark) (left : ℕ) → left ≡ 0 → IsLeft marks left → are_initiated (reverse marks) ≡ false
never-left marks left is before = before.initiated ∙ ap (λ (n : ℕ). are_initiated (reverse (take n marks))) is

module _ (marks : List Mark) (place left : ℕ) (item : Mark) (less : place < length marks) (next : left ≡ place + 1) (is : item ≡ get_or marks place item) where
  front : reverse (take left marks) ≡ item ∷ reverse (take place marks)
  front =
      ap (λ (n : ℕ). reverse (take n marks)) next ∙ ap reverse (take_more marks place item less)
      ∙ reverse-append (take place marks) (get_or marks place item ∷ [])
      ∙ ap (λ (m : Mark). m ∷ reverse (take place marks)) (sym is)

  behind : reverse (drop place marks) ≡ reverse (drop left marks) ++ item ∷ []
  behind =
      ap reverse (drop_more marks place item less) ∙ reverse-append (get_or marks place item ∷ []) (drop (place + 1) marks)
      ∙ ap (λ (m : Mark). reverse (drop (place + 1) marks) ++ m ∷ []) (sym is)
      ∙ ap (λ (n : ℕ). reverse (drop n marks) ++ item ∷ []) (sym next)

  -- the last one that is left is no point
  pub less-left : item.is_point ≡ false → IsLeft marks left → IsLeft marks place
  less-left no_point before = record {
    resolved = before.resolved
        ∙ ap (λ (ms : List Mark). reverse (drop left marks) ++ resolved_among ms) front
        ∙ ap (λ (b : Bool). reverse (drop left marks)
        ++ cond b (record item { is_resolved = true } ∷ reverse (take place marks)) (item ∷ resolved_among (reverse (take place marks)))) no_point
        ∙ sym (append_assoc (reverse (drop left marks)) (item ∷ []) (resolved_among (reverse (take place marks))))
        ∙ ap (λ (ms : List Mark). ms ++ resolved_among (reverse (take place marks))) (sym behind);
    initiated = before.initiated ∙ ap are_initiated front
        ∙ ap (λ (b : Bool). cond b item.is_initiated (are_initiated (reverse (take place marks)))) no_point;
  }

at-place : (marks : List Mark) (place : ℕ) (item : Mark) → place < length marks → item ≡ get_or marks place item
    → resolved_at place marks ≡ take place marks ++ record item { is_resolved = true } ∷ drop (place + 1) marks
at-place [] place item less is = absurd (omega arith)
at-place (mark ∷ rest) zero item less is = ap (λ (m : Mark). record m { is_resolved = true } ∷ rest) (sym is)
at-place (mark ∷ rest) (suc place) item less is =
    let one : suc (place + 1) ≡ suc place + 1 = omega arith in
    ap (λ (ms : List Mark). mark ∷ ms) (at-place rest place item (omega arith) is)
    ∙ ap (λ (n : ℕ). mark ∷ (take place rest ++ record item { is_resolved = true } ∷ drop n (mark ∷ rest))) one

initiates-place : (marks : List Mark) (place : ℕ) (item : Mark) → place < length marks → item ≡ get_or marks place item
    → item.is_initiated ≡ is_initiated_at place marks
initiates-place [] place item less is = absurd (omega arith)
initiates-place (mark ∷ rest) zero item less is = ap (λ (m : Mark). m.is_initiated) is
initiates-place (mark ∷ rest) (suc place) item less is = initiates-place rest place item (omega arith) is

module _ (marks : List Mark) (place left : ℕ) (item : Mark) (less : place < length marks) (next : left ≡ place + 1) (is : item ≡ get_or marks place item)
    (point : item.is_point ≡ true) (before : IsLeft marks left) where
  -- it is a point
  pub resolved-found : resolved_among (reverse marks) ≡ reverse (resolved_at place marks)
  resolved-found =
      let settled : Mark = record item { is_resolved = true } in
      before.resolved ∙ ap (λ (ms : List Mark). reverse (drop left marks) ++ resolved_among ms) (front marks place left item less next is)
      ∙ ap (λ (b : Bool). reverse (drop left marks)
      ++ cond b (settled ∷ reverse (take place marks)) (item ∷ resolved_among (reverse (take place marks)))) point
      ∙ ap (λ (n : ℕ). reverse (drop n marks) ++ settled ∷ reverse (take place marks)) next
      ∙ sym (ap reverse (at-place marks place item less is)
      ∙ reverse-append (take place marks) (settled ∷ drop (place + 1) marks)
      ∙ ap (λ (ms : List Mark). ms ++ reverse (take place marks)) (reverse-append (settled ∷ []) (drop (place + 1) marks))
      ∙ append_assoc (reverse (drop (place + 1) marks)) (settled ∷ []) (reverse (take place marks)))

  pub initiated-found : are_initiated (reverse marks) ≡ is_initiated_at place marks
  initiated-found =
      before.initiated ∙ ap are_initiated (front marks place left item less next is)
      ∙ ap (λ (b : Bool). cond b item.is_initiated (are_initiated (reverse (take place marks)))) point
      ∙ initiates-place marks place item less is

-- the mark of a place
pub initiated-there : (marks : List Mark) (place : ℕ) (item : Mark) → place < length marks
    → (slice_index_or marks place item).is_initiated ≡ is_initiated_at place marks
initiated-there [] place item less = absurd (omega arith)
initiated-there (mark ∷ rest) zero item less = refl
initiated-there (mark ∷ rest) (suc place) item less = initiated-there rest place item (omega arith)

-- it is resolved
pub resolved-set : (marks : List Mark) (place : ℕ) (item : Mark) → item ≡ slice_index_or marks place item
    → slice_set marks place (record item { is_resolved = true }) ≡ resolved_at place marks
resolved-set [] place item is = refl
resolved-set (mark ∷ rest) zero item is = ap (λ (m : Mark). record m { is_resolved = true } ∷ rest) is
resolved-set (mark ∷ rest) (suc place) item is = ap (λ (ms : List Mark). mark ∷ ms) (resolved-set rest place item is)
