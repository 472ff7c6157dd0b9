-- The reading of a list is the one list that the characters write.
use Rattle.std.proofs.Common.{◌≡◌, ◌↔◌, ℕ, List, Option, Some, None, Bool, true, false, cond, refl, sym, ap, subst, ◌∙◌}
use Rattle.dfdl_machines.specs.Machines.{run}
use Rattle.dfdl_forms.specs.declared.literals.Piece.{Piece}
use Rattle.dfdl_literals.specs.Faults.{IsRefusalOf}
use Rattle.dfdl_literals.specs.Lists.{IsList, Reads, Spells, closed}
use Rattle.dfdl_literals.specs.Readings.{IsUnreadAt, literals_reading, literals_whole}
use Rattle.dfdl_literals.specs.Steps.{State, start, step, accepts}
use Rattle.dfdl_literals.specs.declared.LiteralFault.{LiteralFault}
use Rattle.dfdl_literals.specs.declared.LiteralFault.TheVariants.{Malformed, MatchesNothing, OutOfMemory}
use Rattle.dfdl_literals.proofs.Reader.{full_run, reads_only}

some_same : (list other : List (List Piece)) → Some list ≡ Some other → list ≡ other
some_same list other same = cc

-- what is written is read
pub spelled_reading : (e : Bool) (text : List ℕ) (list : List (List Piece)) → Spells e list text → literals_reading e text ≡ Some list
unfolding literals_reading
spelled_reading e text list spells =
    ap literals_whole (ap (λ l. run (step e) start l) (sym spells.spelled) ∙ full_run e spells.written spells.fits) ∙ ap Some spells.means

-- no list is read as none
pub none_reading : (e : Bool) (text : List ℕ) → (IsList e text → ⊥) → literals_reading e text ≡ None
unfolding literals_reading
none_reading e text none = by (run (step e) start text) refl
  where
    end : (s : State) (b : Bool) → run (step e) start text ≡ Some s → accepts s ≡ b
        → cond b (Some (closed s.ended s.open_pieces)) None ≡ None
    end s true is whole = absurd (none (closed s.ended s.open_pieces, (reads_only e s text is whole).spells))
    end s false is whole = refl

    by : (o : Option State) → run (step e) start text ≡ o → literals_whole o ≡ None
    by None is = refl
    by (Some s) is = end s (accepts s) is refl

-- what is read is written
pub reading_reads : (e : Bool) (text : List ℕ) (list : List (List Piece)) → literals_reading e text ≡ Some list → Reads e list text
unfolding literals_reading
reading_reads e text list read = by (run (step e) start text) refl read
  where
    end : (s : State) (b : Bool) → run (step e) start text ≡ Some s → accepts s ≡ b
        → cond b (Some (closed s.ended s.open_pieces)) None ≡ Some list → Reads e list text
    end s true is whole same =
        subst (λ l. Reads e l text) (some_same (closed s.ended s.open_pieces) list same) (reads_only e s text is whole)
    end s false is whole same = let no_it : ⊥ = cc in absurd no_it

    by : (o : Option State) → run (step e) start text ≡ o → literals_whole o ≡ Some list → Reads e list text
    by None is same = let no_it : ⊥ = cc in absurd no_it
    by (Some s) is same = end s (accepts s) is refl same

pub reading_is : (e : Bool) (text : List ℕ) (list : List (List Piece)) → (literals_reading e text ≡ Some list) ↔ Reads e list text
reading_is e text list = (reading_reads e text list, λ reads. spelled_reading e text list reads.spells)

some_none : (o : Option (List (List Piece))) (list : List (List Piece)) → o ≡ None → o ≡ Some list → ⊥
some_none o list none some = cc

pub none_is : (e : Bool) (text : List ℕ) → (literals_reading e text ≡ None) ↔ (IsList e text → ⊥)
none_is e text =
    (λ none list. some_none (literals_reading e text) list.0 none (spelled_reading e text list.0 list.1), none_reading e text)

-- a refusal leaves nothing read
pub unread_at : (e : Bool) (text : List ℕ) (fault : LiteralFault) → IsRefusalOf e text fault → IsUnreadAt e text fault
unread_at e text (Malformed at) refusal = none_reading e text refusal.1.no_text
unread_at e text MatchesNothing refusal = tt
unread_at e text OutOfMemory refusal = tt
