-- What is laid by the next event, and what that does to the pieces so far.
use Rattle.std.proofs.Common.{◌≡◌, ℕ, zero, suc, ◌+◌, ◌<◌, true, false, nat_eq, List, [], ◌∷◌, ◌++◌, length, drop, get_or, All, Option, None, Some, Result, Ok, Err, IfOk, slice_get, refl, sym, ap, subst, ◌∙◌, arith, append_assoc, inl, inr}
use Rattle.std.proofs.lemmas.Bool.{cases_Bool, eqb-true}
use Rattle.std.proofs.lemmas.List.{append-nil}
use Rattle.std.proofs.lemmas.Option.{slice_get_within, slice_get_past, slice_get_read, get_or_from_slice_get}
use Rattle.std.proofs.lemmas.Bool.Decides.{nat_tests}
use Rattle.std.specs.Prelude.{nat_lt}
use Rattle.dfdl_lemmas.proofs.Lists.{left_at}
use Rattle.dfdl_forms.specs.declared.binary.IntForm.{IntForm}
use Rattle.dfdl_forms.specs.declared.simple.Simple.{Simple as SimpleType}
use Rattle.dfdl_value.specs.Types.{IsOfType}
use Rattle.dfdl_value.specs.declared.value.Value.{Value}
use Rattle.dfdl_terms.specs.declared.representations.Representations.{Representations}
use Rattle.dfdl_terms.specs.declared.statement.Statements.{Statements}
use Rattle.dfdl_terms.specs.Rows.{Table}
use Rattle.dfdl_terms.specs.declared.event.Event.{Event}
use Rattle.dfdl_terms.specs.declared.event.Event.TheVariants.{Start, Simple, Nil, End}
use Rattle.dfdl_terms.specs.declared.row.Row.TheVariants.{Elem}
use Rattle.dfdl_pieces.specs.Laying.{Laying, Lays, Misses, Takes, form_at, in_turn, laid, laying, value_for}
use Rattle.dfdl_pieces.specs.Unparsing.{IsLess, IsTyped, Moves, left, outcome, steps_left, with_pieces}
use Rattle.dfdl_pieces.specs.declared.unparsing.Task.TheVariants.{Lay}
use Rattle.dfdl_pieces.specs.declared.unparsing.Task.{Task}
use Rattle.dfdl_pieces.proofs.Layings.{left_turn}
use Rattle.std.specs.Prelude.{IfNone, map}
use Rattle.dfdl_pieces.specs.Whole.{AreWholeFields, IsWholeForm}
use Rattle.dfdl_pieces.specs.declared.unparsing.Unparsed.{Unparsed}
use Rattle.dfdl_pieces.specs.declared.unparsing.Unparser.{Unparser}

drop_none : (events : List Event) (at : ℕ) → slice_get events at ≡ None → drop at events ≡ []
drop_none [] zero none = refl
drop_none [] (suc at) none = refl
drop_none (event ∷ events) zero none = absurd (cc)
drop_none (event ∷ events) (suc at) none = drop_none events at none

drop_some : (events : List Event) (at : ℕ) (event : Event) → slice_get events at ≡ Some event → drop at events ≡ event ∷ drop (at + 1) events
drop_some events at event is = left_at events at event (slice_get_within events at event is) (sym (get_or_from_slice_get events at event event is))

pub takes_none : (events : List Event) (at : ℕ) (more : Option Event → Laying) → slice_get events at ≡ None
    → laid (Takes more) (drop at events) ≡ laid (more None) (drop at events)
unfolding laid
takes_none events at more none = rw (drop_none events at none) refl

pub takes_some : (events : List Event) (at : ℕ) (event : Event) (more : Option Event → Laying) → slice_get events at ≡ Some event
    → laid (Takes more) (drop at events) ≡ laid (more (Some event)) (drop (at + 1) events)
unfolding laid
takes_some events at event more is = ap (laid (Takes more)) (drop_some events at event is)

-- an element is missing
laid_missing : (pieces : List (List ℕ)) (next : Laying) (events rest : List Event) (path : List ℕ) → laid next events ≡ laid (Misses path) rest
    → record { pieces = pieces; missing = Some path } ≡ with_pieces pieces (laid next events)
unfolding laid
laid_missing pieces next events rest path is =
    sym (ap (with_pieces pieces) is ∙ ap (λ (ps : List (List ℕ)). let u : Unparsed = record { pieces = ps; missing = Some path } in u) (append-nil pieces))

-- a piece is laid
pub laid_piece : (pieces now : List (List ℕ)) (next more : Laying) (events rest : List Event) (piece : List ℕ) → laid next events ≡ laid (Lays piece more) rest
    → now ≡ pieces ++ piece ∷ [] → with_pieces now (laid more rest) ≡ with_pieces pieces (laid next events)
unfolding laid
laid_piece pieces now next more events rest piece is now_is =
    ap (λ ps. with_pieces ps (laid more rest)) now_is
    ∙ (ap (λ (ps : List (List ℕ)). let u : Unparsed = record { pieces = ps; missing = (laid more rest).missing } in u) (append_assoc pieces (piece ∷ []) (laid more rest).pieces)
    ∙ sym (ap (with_pieces pieces) is))

-- a missing element ends the laying
pub moves_missing : (events rest : List Event) (old new : Unparser) (next more : Laying) (path : List ℕ) (o : Option (List ℕ)) → o ≡ Some path
    → new.pieces ≡ old.pieces → laid next (drop old.at events) ≡ laid (Misses path) rest → Moves events old next new more o
moves_missing events rest old new next more path o is pieces_are laid_is =
    subst (λ (x : Option (List ℕ)). Moves events old next new more x) (sym is)
    (ap (λ (ps : List (List ℕ)). let u : Unparsed = record { pieces = ps; missing = Some path } in u) pieces_are
    ∙ laid_missing old.pieces next (drop old.at events) rest path laid_is)

-- what holds of an event at its place
typed_at : (t : Table) (events : List Event) (at : ℕ) (event : Event) → All (IsTyped t) events → slice_get events at ≡ Some event → IsTyped t event
typed_at t events at event all is =
    subst (IsTyped t) (get_or_from_slice_get events at event event is) (all at event (slice_get_within events at event is))

value_here : (t : Table) (row elem : ℕ) (value v : Value) (name : List ℕ) (kind : SimpleType) (tried : Representations) (behind : Statements) (body : ℕ) → slice_get t.rows row ≡ Some (Elem name (Some kind) tried behind body)
    → IsTyped t (Simple elem value) → Some v ≡ value_for row (Some (Simple elem value)) → IsOfType kind v
value_here t row elem value v name kind tried behind body there typed is =
    (elim (cases_Bool (nat_eq elem row)) as (λ _. Some v ≡ value_for row (Some (Simple elem value)) → IsOfType kind v) [
      | inl same ↦ rw same (λ e. let v_is : value ≡ v = cc in let row_is : elem ≡ row = eqb-true elem row same in
          subst (λ (w : Value). IsOfType kind w) v_is (typed name kind tried behind body (ap (slice_get t.rows) row_is ∙ there)))
      | inr other ↦ rw other (λ e. absurd (cc))
    ]) is

value_in : (t : Table) (row : ℕ) (o : Option Event) (v : Value) (name : List ℕ) (kind : SimpleType) (tried : Representations) (behind : Statements) (body : ℕ) → slice_get t.rows row ≡ Some (Elem name (Some kind) tried behind body)
    → ((event : Event) → o ≡ Some event → IsTyped t event) → Some v ≡ value_for row o → IsOfType kind v
value_in t row None v name kind tried behind body there typed is = absurd (cc)
value_in t row (Some (Start elem)) v name kind tried behind body there typed is = absurd (cc)
value_in t row (Some (Nil elem)) v name kind tried behind body there typed is = absurd (cc)
value_in t row (Some End) v name kind tried behind body there typed is = absurd (cc)
value_in t row (Some (Simple elem value)) v name kind tried behind body there typed is = value_here t row elem value v name kind tried behind body there (typed (Simple elem value) refl) is

form_kind : (kind : SimpleType) (form : IntForm) (o : Option IntForm) → Some form ≡ o → IsWholeForm kind o → form.kind ≡ kind
form_kind kind form None is whole = absurd (cc)
form_kind kind form (Some other) is whole = let same : form ≡ other = cc in ap (λ f. f.kind) same ∙ whole.0

-- the value that is laid is of the form's type
pub value_of_form : (t : Table) (row : ℕ) (events : List Event) (at : ℕ) (o : Option Event) (v : Value) (form : IntForm) (name : List ℕ) (kind : SimpleType) (tried : Representations) (behind : Statements) (body : ℕ)
    → slice_get t.rows row ≡ Some (Elem name (Some kind) tried behind body) → All (IsTyped t) events → AreWholeFields t → o ≡ slice_get events at → Some v ≡ value_for row o
    → Some form ≡ form_at t body → IsOfType form.kind v
value_of_form t row events at o v form name kind tried behind body there typed whole o_is is form_is =
    subst (λ (k : SimpleType). IsOfType k v) (sym (form_kind kind form (form_at t body) form_is (whole row name kind tried behind body there)))
    (value_in t row o v name kind tried behind body there (λ event event_is. typed_at t events at event typed (sym o_is ∙ event_is)) is)

-- what follows where a call succeeds
pub if_ok : {A E : Type 0} (r : Result A E) (P Q : A → Type 0) → IfOk r P → ((x : A) → P x → Q x) → IfOk r Q
if_ok (Ok x) P Q holds follows = follows x holds
if_ok (Err e) P Q holds follows = tt

-- a look at a place past the end, and at one before it
pub past_end : (events : List Event) (at : ℕ) → false ≡ nat_lt at (length events) → slice_get events at ≡ None
past_end events at is = slice_get_past events at (grind (arith, nat_tests))

pub at_place : (events : List Event) (at : ℕ) (event : Event) → true ≡ nat_lt at (length events) → event ≡ get_or events at event → slice_get events at ≡ Some event
at_place events at event is here = slice_get_read events (length events) at event refl (grind (arith, nat_tests)) here

pub if_ok_both : {A E : Type 0} (r : Result A E) (P Q R : A → Type 0) → IfOk r P → IfOk r Q → ((x : A) → P x → Q x → R x) → IfOk r R
if_ok_both (Ok x) P Q R p q follows = follows x p q
if_ok_both (Err e) P Q R p q follows = tt

pub if_ok_any : {A E : Type 0} (r : Result A E) (P : A → Type 0) → ((x : A) → P x) → IfOk r P
if_ok_any (Ok x) P each = each x
if_ok_any (Err e) P each = tt

-- fewer steps, whether an element is missing or not
pub is_less : (t : Table) (n : ℕ) (new : Unparser) (o : Option (List ℕ)) → steps_left t new.tasks.items < n → IsLess t n new o
is_less t n new None less = less
is_less t n new (Some path) less = tt

pub less_too : (t : Table) (n m : ℕ) (new : Unparser) (o : Option (List ℕ)) → (steps_left t new.tasks.items < n → steps_left t new.tasks.items < m) → IsLess t n new o → IsLess t m new o
less_too t n m new None follows less = follows less
less_too t n m new (Some path) follows less = tt

-- what was next is the same
pub moves_too : (events : List Event) (old new : Unparser) (next other rest : Laying) (o : Option (List ℕ)) → other ≡ next → Moves events old next new rest o → Moves events old other new rest o
moves_too events old new next other rest o same moves = subst (λ (l : Laying). Moves events old l new rest o) (sym same) moves

-- the tasks stay, and the elements around unless one is missing
pub moves_same : (t : Table) (events : List Event) (old new : Unparser) (next other : Laying) (o : Option (List ℕ)) → other ≡ next
    → new.tasks.items ≡ old.tasks.items → IfNone o (new.around ≡ old.around)
    → Moves events old next new (left t old.tasks.items old.around) o → Moves events old other new (left t new.tasks.items new.around) o
moves_same t events old new next other None same tasks names moves =
    ap (outcome new events) (ap (λ ts. left t ts new.around) tasks ∙ ap (left t old.tasks.items) names) ∙ (moves ∙ ap (outcome old events) (sym same))
moves_same t events old new next other (Some path) same tasks names moves = moves ∙ ap (outcome old events) (sym same)

-- the rows of a group stand before the other tasks
pub moves_group : (t : Table) (events : List Event) (old new : Unparser) (next : Laying) (rows : List ℕ) (o : Option (List ℕ)) → o ≡ None
    → next ≡ in_turn (laying t) rows old.around (left t old.tasks.items old.around)
    → new.tasks.items ≡ map Lay rows ++ old.tasks.items → new.around ≡ old.around → new.at ≡ old.at → new.pieces ≡ old.pieces
    → Moves events old next new (left t new.tasks.items new.around) o
moves_group t events old new next rows o none next_is tasks names at pieces =
    subst (λ (x : Option (List ℕ)). Moves events old next new (left t new.tasks.items new.around) x) (sym none)
    (ap (λ ts. outcome new events (left t ts new.around)) tasks
    ∙ (ap (λ ns. outcome new events (left t (map Lay rows ++ old.tasks.items) ns)) names
    ∙ (ap (outcome new events) (left_turn t rows old.tasks.items old.around ∙ sym next_is)
    ∙ (ap (λ n. with_pieces new.pieces (laid next (drop n events))) at
    ∙ ap (λ ps. with_pieces ps (laid next (drop old.at events))) pieces))))

-- no task is left
pub all_laid : (t : Table) (events : List Event) (u : Unparser) (all : Unparsed) → length u.tasks.items ≡ 0 → outcome u events (left t u.tasks.items u.around) ≡ all
    → record { pieces = u.pieces; missing = None } ≡ all
unfolding laid
all_laid t events u all none is =
    let empty : u.tasks.items ≡ [] = nothing_left u.tasks.items none in
    sym (ap (λ ts. outcome u events (left t ts u.around)) empty ∙ ap (λ (ps : List (List ℕ)). let w : Unparsed = record { pieces = ps; missing = None } in w) (append-nil u.pieces)) ∙ is
  where
    nothing_left : (tasks : List Task) → length tasks ≡ 0 → tasks ≡ []
    nothing_left [] e = refl
    nothing_left (task ∷ tasks) e = absurd (omega (arith, e))
