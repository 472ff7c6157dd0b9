-- The row of a scope around a content and the rows around both: how many they are, and what holds of each.
use Rattle.std.proofs.Common.{◌≡◌, ℕ, ◌+◌, ◌<◌, Bool, true, false, nat_lt, ◌||◌, is_some, List, [], length, All, Option, None, Some, ap, subst, refl, arith, length-append}
use Rattle.std.proofs.lemmas.List.Elements.{All-nil, All-cons, All-append}
use Rattle.dfdl_terms.specs.declared.delimiters.Delimiter.{Delimiter}
use Rattle.dfdl_terms.specs.declared.framing.Framing.{Framing}
use Rattle.dfdl_terms.specs.declared.row.Row.{Row}
use Rattle.dfdl_terms.specs.declared.row.Row.TheVariants.{Scope}
use Rattle.dfdl_rows.specs.Framing.{has_framing}
use Rattle.dfdl_rows.specs.Scopes.{list_of, scanned_list, scope_rows, scoped_row, scope_size}
use Rattle.dfdl_rows.specs.RowLists.{scoped}

pub length_scope : (t : Option ℕ) (content : ℕ) → length (scope_rows t content) ≡ scope_size t
length_scope None content = refl
length_scope (Some list) content = refl

-- the row of the content in its scope is the last one, that of the content where there is no scope
pub scope_end : (t : Option ℕ) (content first : ℕ) → content + 1 ≡ first → scoped_row t content first + 1 ≡ first + scope_size t
scope_end None content first is = omega (arith, is)
scope_end (Some list) content first is = refl

pub scope_below : (t : Option ℕ) (content first : ℕ) → content < first → scoped_row t content first < first + scope_size t
scope_below None content first less = omega (arith, less)
scope_below (Some list) content first less = omega arith

-- what holds of scopes
scope_all : (P : Row → Type 0) (t : Option ℕ) (content : ℕ) → ((list : ℕ) → t ≡ Some list → P (Scope list content))
    → All P (scope_rows t content)
scope_all P None content scopes = All-nil P
scope_all P (Some list) content scopes = All-cons P (Scope list content) [] (scopes list refl) (All-nil P)

-- what holds of them and of the rows around
pub scoped_all : (P : Row → Type 0) (t : Option ℕ) (around : ℕ → ℕ → List Row)
    → ((list body : ℕ) → t ≡ Some list → P (Scope list body)) → ((content first : ℕ) → All P (around content first))
    → (content first : ℕ) → All P (scoped t around content first)
scoped_all P t around scopes others content first =
    All-append P (scope_rows t content) (around (scoped_row t content first) (first + scope_size t))
    (scope_all P t content (λ list is. scopes list content is)) (others (scoped_row t content first) (first + scope_size t))

pub length_scoped : (t : Option ℕ) (around : ℕ → ℕ → List Row) (size : ℕ) → ((content first : ℕ) → length (around content first) ≡ size)
    → (content first : ℕ) → length (scoped t around content first) ≡ scope_size t + size
length_scoped t around size long content first =
    let others : List Row = around (scoped_row t content first) (first + scope_size t) in
    omega (arith, length-append (scope_rows t content) others, length_scope t content, long (scoped_row t content first) (first + scope_size t))

none_of : (before behind : Bool) (t : Option Delimiter) → (before || is_some t || behind) ≡ false → t ≡ None
none_of before behind None is = refl
none_of true behind (Some own) is = absurd (cc)
none_of false behind (Some own) is = absurd (cc)

-- where nothing frames a content, there is no terminator
pub no_terminator : (f : Framing) → has_framing f ≡ false → list_of f.terminator ≡ None
no_terminator f none =
    ap list_of
    (none_of (nat_lt 0 f.before.count || nat_lt 0 f.settings.count || nat_lt 0 f.leading_skip || nat_lt 1 f.alignment || is_some f.initiator) (nat_lt 0 f.trailing_skip) f.terminator none)

-- what holds of the list of a delimiter, where there is one
pub listed : (P : ℕ → Type 0) (d : Option Delimiter) (list : ℕ) → list_of d ≡ Some list → ((own : Delimiter) → d ≡ Some own → P own.list) → P list
listed P (Some own) list is holds = subst P (some-list own.list list is) (holds own refl)
  where
    some-list : (m n : ℕ) → Some m ≡ Some n → m ≡ n
    some-list m n is = cc
listed P None list is holds = absurd (cc)

-- the same of a simple element
pub none_scanned : (scanned : Bool) (f : Framing) → has_framing f ≡ false → scanned_list scanned f.terminator ≡ None
none_scanned true f none = no_terminator f none
none_scanned false f none = refl

pub scanned_holds : (P : ℕ → Type 0) (scanned : Bool) (d : Option Delimiter) (list : ℕ) → scanned_list scanned d ≡ Some list
    → ((own : Delimiter) → d ≡ Some own → P own.list) → P list
scanned_holds P true d list is holds = listed P d list is holds
scanned_holds P false d list is holds = absurd (cc)
