-- Of which bytes a text is longer, and where the looks at a text lie.
use Rattle.std.proofs.Common.{◌≡◌, ℕ, zero, suc, ◌+◌, ◌-◌, ◌/◌, ◌≤◌, List, [], ◌∷◌, ◌++◌, length, Option, Some, None, Bool, true, false, if◌then◌else◌, refl, sym, ap, ◌∙◌, arith}
use Rattle.dfdl_forms.specs.declared.literals.Piece.{Piece}
use Rattle.dfdl_looks.specs.Asks.{Ask, Answer, AsksFrom, Look}
use Rattle.dfdl_delims.specs.declared.candidate.Candidate.{Candidate}
use Rattle.dfdl_delims.specs.Candidates.{complete, some_dead, step}
use Rattle.dfdl_delims.specs.Deciding.{behind, goes_on, goes_on_in}
use Rattle.dfdl_delims.specs.Lists.{Decides, GoesOn, Opened, innermost, is_text_at}
use Rattle.dfdl_delims.specs.Longest.{Longest, NoText, better, longest_at, longest_from}
use Rattle.dfdl_delims.specs.Registers.{Flat, no_lists, with_lists}
use Rattle.dfdl_delims.proofs.Completing.{step_completes}
use Rattle.dfdl_delims.proofs.Living.{step_live}
use Rattle.dfdl_delims.proofs.Held.{StandsFor, held}
use Rattle.dfdl_delims.proofs.Going.{no_both, none_goes, some_goes}

behind_completes : (pieces : List Piece) (bytes : List ℕ) (candidates : List Candidate) (place : ℕ) (rest : List ℕ)
    → complete pieces place (behind pieces bytes candidates) rest ≡ complete pieces place candidates (bytes ++ rest)
unfolding behind
behind_completes pieces [] candidates place rest = refl
behind_completes pieces (byte ∷ bytes) candidates place rest =
    behind_completes pieces bytes (step pieces byte candidates) place rest ∙ step_completes pieces place byte (bytes ++ rest) candidates

behind_live : (pieces : List Piece) (bytes : List ℕ) (candidates : List Candidate) → some_dead pieces candidates ≡ false
    → some_dead pieces (behind pieces bytes candidates) ≡ false
unfolding behind
behind_live pieces [] candidates live = live
behind_live pieces (byte ∷ bytes) candidates live = behind_live pieces bytes (step pieces byte candidates) (step_live pieces byte candidates live)

decided_in : (flat : Flat) (lists : List Opened) → StandsFor flat lists → Decides lists (goes_on_in flat)
decided_in flat lists stands bytes = (there, back)
  where
    text_is : (place : ℕ) (rest : List ℕ)
        → complete flat.pieces place (behind flat.pieces bytes flat.starts) rest ≡ is_text_at lists place (bytes ++ rest)
    text_is place rest = behind_completes flat.pieces bytes flat.starts place rest ∙ stands.texts.is place (bytes ++ rest)

    there : goes_on_in flat bytes ≡ true → GoesOn lists bytes
    there goes =
        let more = some_goes flat.pieces (behind flat.pieces bytes flat.starts) (behind_live flat.pieces bytes flat.starts stands.texts.live) goes in
        record { place = more.place; next = more.next; more = more.more; is = sym (text_is more.place (more.next ∷ more.more)) ∙ more.is }

    back : GoesOn lists bytes → goes_on_in flat bytes ≡ true
    back goes = by (goes_on_in flat bytes) refl
      where
        by : (t : Bool) → goes_on_in flat bytes ≡ t → t ≡ true
        by true is = refl
        by false is =
            absurd (no_both (is_text_at lists goes.place (bytes ++ goes.next ∷ goes.more)) goes.is
            (sym (text_is goes.place (goes.next ∷ goes.more)) ∙ none_goes flat.pieces (behind flat.pieces bytes flat.starts) is goes.place goes.next goes.more))

pub decided : (lists : List Opened) → Decides lists (goes_on lists)
decided lists = decided_in (with_lists no_lists lists) lists (held (with_lists no_lists lists) lists refl)

if_from : (low : ℕ) (t : Bool) (a b : Ask Longest) → AsksFrom low a → AsksFrom low b → AsksFrom low (if t then a else b)
if_from low true a b first second = first
if_from low false a b first second = second

from_here : (test : List ℕ → Bool) (lists : List Opened) (low more : ℕ) (seen : List ℕ) (found : Longest) (k : ℕ) → low ≤ k
    → AsksFrom low (longest_from test lists more seen found k)
from_here test lists low zero seen found k least = tt
from_here test lists low (suc more) seen found k least =
    if_from low (test seen) _ _ (least, (λ o. by o (λ byte. from_here test lists low more (seen ++ byte ∷ []) (better (innermost lists seen) (length seen) found) (k + 1) (omega (arith, least))))) tt
  where
    by : (o : Option ℕ) → ((byte : ℕ) → AsksFrom low (longest_from test lists more (seen ++ byte ∷ []) (better (innermost lists seen) (length seen) found) (k + 1)))
        → AsksFrom low (elim o [
          | None ↦ Answer (better (innermost lists seen) (length seen) found)
          | Some byte ↦ longest_from test lists more (seen ++ byte ∷ []) (better (innermost lists seen) (length seen) found) (k + 1)
        ])
    by None again = tt
    by (Some byte) again = again byte

pub begins_here : (test : List ℕ → Bool) (lists : List Opened) (stop k : ℕ) → AsksFrom k (longest_at test lists stop k)
begins_here test lists stop k = from_here test lists k (stop / 8 - k) [] NoText k (omega arith)

-- where no list is open

none_goes_on : (test : List ℕ → Bool) → Decides [] test → test [] ≡ false
unfolding is_text_at
none_goes_on test decides = by (test []) refl
  where
    by : (t : Bool) → test [] ≡ t → t ≡ false
    by false is = refl
    by true is = let goes = (decides []).0 is in let no_it : ⊥ = cc in absurd no_it

nothing_from : (test : List ℕ → Bool) (more k : ℕ) → test [] ≡ false → longest_from test [] more [] NoText k ≡ Answer NoText
nothing_from test zero k is = refl
nothing_from test (suc more) k is =
    ap (λ (t : Bool). if t then Look k (λ o. elim o [
      | None ↦ Answer NoText
      | Some byte ↦ longest_from test [] more (byte ∷ []) NoText (k + 1)
    ])
    else Answer NoText) is

pub nothing_there : (test : List ℕ → Bool) (stop k : ℕ) → Decides [] test → longest_at test [] stop k ≡ Answer NoText
nothing_there test stop k decides = nothing_from test (stop / 8 - k) k (none_goes_on test decides)
