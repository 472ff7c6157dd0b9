-- One step of the loops that look at the statements of rows, and what they come to.
use Rattle.std.proofs.Common.{◌≡◌, ℕ, ◌+◌, List, [], ◌∷◌, ◌++◌, Option, Some, None, Result, Ok, Err, IfOk, Vec, true, false, nat_lt, drop, get_or, length, slice_get, arith, refl, sym, ap, subst, ◌∙◌, add-one}
use Rattle.std.proofs.lemmas.Bool.Decides.{nat_tests}
use Rattle.std.proofs.lemmas.Option.{slice_get_past, slice_get_read}
use Rattle.dfdl_expression_tree.specs.Trees.{Formula}
use Rattle.dfdl_expression_types.specs.declared.statics.Place.{Place}
use Rattle.dfdl_terms.specs.declared.row.Row.{Row}
use Rattle.dfdl_terms.specs.declared.slots.Slot.{Slot}
use Rattle.dfdl_terms.specs.declared.statement.Statement.{Statement}
use Rattle.dfdl_statements.specs.declared.fault.GivenRefusal.{GivenRefusal}
use Rattle.dfdl_statements.specs.declared.fault.Refusal.{Refusal}
use Rattle.dfdl_statements.specs.declared.sight.Sight.{Sight}
use Rattle.dfdl_statements.specs.declared.standing.Standing.{Standing}
use Rattle.dfdl_statements.specs.declared.written.Written.{Written}
use Rattle.dfdl_statements.specs.Children.{children_in, counted_in, slots_in}
use Rattle.dfdl_statements.specs.Elements.{arounds, or_else}
use Rattle.dfdl_statements.specs.declared.fault.StatementFault.{StatementFault}
use Rattle.dfdl_statements.specs.Settled.{beside, first_asked, first_told, given_at, given_in, lower, lowest, made_from, noted, own_refusal, places, places_by, refusal, refusal_by, refusal_of, refusals, row_refusal, settled_by}
use Rattle.dfdl_statements.specs.SettledShown.{LooksAt, Settles}
use Rattle.dfdl_statements.specs.Standing.{slot_asked, slots_asked, standings}
use Rattle.dfdl_statements.proofs.Tables.{one_more}

module _ (rows : List Row) (written : List Written) (n : ℕ) where
  pub place_put : (table : List (Option ℕ)) (list asked : List Standing) (old between new : List (Option Place)) → table ≡ arounds rows
      → list ≡ standings rows written table n → asked ≡ slots_asked rows written table n → old ≡ places_by rows written n → between ≡ noted list old
      → new ≡ noted asked between → new ≡ places_by rows written (n + 1)
  place_put table list asked old between new around is asks same grown more =
      rw add-one
      (more ∙ (ap (λ l. noted l between) asks ∙ (ap (λ t. noted (slots_asked rows written t n) between) around
      ∙ ap (noted (slots_asked rows written (arounds rows) n))
      (grown ∙ (ap (λ l. noted l old) is ∙ (ap (λ t. noted (standings rows written t n) old) around ∙ ap (noted (standings rows written (arounds rows) n)) same))))))

  module _ (read : List ℕ → Option Formula) (sight : Sight) (given : Option GivenRefusal) where
    pub refusal_put : (old new : List (Option Refusal)) (found : Option Refusal) → old ≡ refusals read sight rows written given n
        → found ≡ row_refusal read sight rows written given n old → new ≡ old ++ (found ∷ []) → new ≡ refusals read sight rows written given (n + 1)
    refusal_put old new found same is grown =
        rw add-one
        (one_more old new (refusals read sight rows written given n) found _ grown same (is ∙ ap (row_refusal read sight rows written given n) same))

    -- that of a row itself
    pub own_refused : (table : List (Option ℕ)) (list : List Standing) (here found answer : Option Refusal) (row : Row)
        → table ≡ arounds rows → list ≡ standings rows written table n → here ≡ given_at given n → found ≡ lowest read sight written here list
        → slice_get rows n ≡ Some row → answer ≡ beside (given_in given (counted_in (Some row))) found → answer ≡ own_refusal read sight rows written given n
    own_refused table list here found answer row around is here_is lowest_is there answer_is =
        answer_is
        ∙ (ap (λ r. beside (given_in given (counted_in r)) found) (sym there)
        ∙ ap (beside (given_in given (counted_in (slice_get rows n))))
        (lowest_is
        ∙ (ap (λ o. lowest read sight written o list) here_is
        ∙ (ap (lowest read sight written (given_at given n)) is ∙ ap (λ t. lowest read sight written (given_at given n) (standings rows written t n)) around))))

    pub row_refused : (told : List (Option Refusal)) (own inner found : Option Refusal) (row : Row)
        → own ≡ own_refusal read sight rows written given n → slice_get rows n ≡ Some row
        → inner ≡ or_else (first_asked read sight rows written given n told (slots_in (Some row))) (first_told told (children_in (Some row)))
        → found ≡ or_else own inner → found ≡ row_refusal read sight rows written given n told
    row_refused told own inner found row own_is there inner_is found_is =
        found_is
        ∙ (ap (λ o. or_else o inner) own_is
        ∙ ap (or_else (own_refusal read sight rows written given n))
        (inner_is ∙ ap (λ r. or_else (first_asked read sight rows written given n told (slots_in r)) (first_told told (children_in r))) (sym there)))

-- the refusal of what a slot asks for
pub slot_refused : {E : Type 0} (read : List ℕ → Option Formula) (sight : Sight) (rows : List Row) (written : List Written) (table : List (Option ℕ)) (row : ℕ)
    (slot : Slot) (none list seen : List Standing) (r : Result (Option Refusal) E) → table ≡ arounds rows → none ≡ []
    → list ≡ none ++ slot_asked rows written table row slot → seen ≡ list → IfOk r (λ found. found ≡ lowest read sight written None seen)
    → IfOk r (λ found. found ≡ lowest read sight written None (slot_asked rows written (arounds rows) row slot))
slot_refused read sight rows written table row slot none list seen r around empty grown sees given =
    let is : seen ≡ slot_asked rows written (arounds rows) row slot
    = sees ∙ (grown ∙ (ap (λ xs. xs ++ slot_asked rows written table row slot) empty ∙ ap (λ t. slot_asked rows written t row slot) around)) in
    subst (λ xs. IfOk r (λ found. found ≡ lowest read sight written None xs)) is given

module _ (read : List ℕ → Option Formula) (sight : Sight) (written : List Written) where
  -- the refusal of one statement more
  pub lower_more : (xs : List Standing) (i : ℕ) (d : Standing) (old new found whole : Option Refusal) → drop i xs ≡ d ∷ drop (i + 1) xs
      → found ≡ refusal_of read sight written d → new ≡ lower old found → lowest read sight written old (drop i xs) ≡ whole
      → lowest read sight written new (drop (i + 1) xs) ≡ whole
  lower_more xs i d old new found whole front is same before =
      ap (λ o. lowest read sight written o (drop (i + 1) xs)) (same ∙ ap (lower old) is)
      ∙ (sym (ap (lowest read sight written old) front) ∙ before)

module _ {Y Z : Type 0} (read : List ℕ → Option Formula) (sight : Sight) (rows : List Row) (written : List Written) (found : Option Refusal)
    (looked : Result (Vec (Option Place) Y) Refusal) (looks : LooksAt rows written found looked) where
  -- what is told where no statement is refused
  pub looked_ok : (all : Vec (Option Place) Y) (answer : Result (Vec Statement Z) StatementFault) → looked ≡ Ok all
      → (all.items ≡ places rows written → Settles (made_from read sight rows written 0 written) answer)
      → Settles (settled_by read sight rows written found) answer
  looked_ok all answer same made =
      let at = subst (LooksAt rows written found) same looks in
      subst (λ o. Settles (settled_by read sight rows written o) answer) (sym at.0) (made at.1)

-- what is told of the statements that are seen
pub looked_same : {Y : Type 0} (read : List ℕ → Option Formula) (sight : Sight) (rows : List Row) (given : Option GivenRefusal) (seen all : List Written)
    (looked : Result (Vec (Option Place) Y) Refusal)
    → seen ≡ all → LooksAt rows seen (refusal read sight rows seen given) looked → LooksAt rows all (refusal read sight rows all given) looked
looked_same read sight rows given seen all looked same looks = subst (λ ws. LooksAt rows ws (refusal read sight rows ws given) looked) same looks

-- what is told where one is refused
pub looked_err : {Y : Type 0} (read : List ℕ → Option Formula) (sight : Sight) (rows : List Row) (written : List Written) (found : Option Refusal)
    (looked : Result (Vec (Option Place) Y) Refusal) (looks : LooksAt rows written found looked) (why : Refusal) → looked ≡ Err why
    → settled_by read sight rows written found ≡ Err why
looked_err read sight rows written found looked looks why same =
    let at = subst (LooksAt rows written found) same looks in ap (settled_by read sight rows written) at

-- a statement of a number, and a number past all statements
pub at_place : (written : List Written) (at : ℕ) (w : Written) → true ≡ nat_lt at (length written) → w ≡ get_or written at w → slice_get written at ≡ Some w
at_place written at w is here = slice_get_read written (length written) at w refl (grind (arith, nat_tests)) here

pub past_end : (written : List Written) (at : ℕ) → false ≡ nat_lt at (length written) → slice_get written at ≡ None
past_end written at is = slice_get_past written at (grind (arith, nat_tests))

module _ (read : List ℕ → Option Formula) (sight : Sight) (written : List Written) (at : ℕ) (place : Place) where
  pub refused_at_place : {E : Type 0} (r : Result (Option Refusal) E) (w : Written) → slice_get written at ≡ Some w
      → IfOk r (λ found. found ≡ refusal_by read sight (Some w) place) → IfOk r (λ found. found ≡ refusal_by read sight (slice_get written at) place)
  refused_at_place r w is given = subst (λ o. IfOk r (λ found. found ≡ refusal_by read sight o place)) (sym is) given

  pub refused_past : slice_get written at ≡ None → None ≡ refusal_by read sight (slice_get written at) place
  refused_past is = ap (λ o. refusal_by read sight o place) (sym is)
