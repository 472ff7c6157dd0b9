-- What is told of how many slots of a row are required is taken.
use Rattle.std.proofs.Common.{◌≡◌, ℕ, ap, sym, subst, ◌∙◌, List, ◌∷◌, Bool, Option, Result}
use Rattle.dfdl_bits.specs.Window.{Held}
use Rattle.dfdl_expression_eval.specs.declared.env.Evaluated.{Evaluated}
use Rattle.dfdl_paths.specs.declared.place.Start.TheVariants as start
use Rattle.dfdl_terms.specs.declared.slots.Slot.{Slot}
use Rattle.dfdl_terms.specs.Rows.{Table}
use Rattle.dfdl_grammar.specs.States.{State}
use Rattle.dfdl_grammar.specs.Questions.{question_at}
use Rattle.dfdl_parse.specs.declared.frame.Frame.{Frame}
use Rattle.dfdl_parse.specs.declared.frame.SlotPlace.{SlotPlace}
use Rattle.dfdl_parse.specs.declared.parser.Parser.{Parser}
use Rattle.dfdl_parse.specs.Asking.{behind_question, count_told, given_by}
use Rattle.dfdl_parse.specs.Shown.{Becomes, state_of}
use Rattle.dfdl_parse.specs.Slots.{count_slots, counted_slots}

-- a parser that has read variables goes on
pub count-becomes : (old mid new : Parser) (table : Table) (held : Held) (initiated : Bool) (slot : SlotPlace) (question : ℕ) (own : Slot) (later all : List Slot)
    (given : Option Evaluated) (count : Result (Option ℕ) ℕ) → all ≡ own ∷ later
    → given ≡ given_by table (start.Inside old.inside) (question_at table question) (state_of old) → count ≡ count_told given
    → state_of mid ≡ behind_question table (start.Inside old.inside) question (state_of old)
    → mid ≡ record old { variables = mid.variables; evaluation = mid.evaluation }
    → Becomes mid (counted_slots held initiated slot own later count mid.stack (state_of mid)).machine new
    → Becomes old (count_slots table held initiated slot question all old.stack (state_of old)).machine new
count-becomes old mid new table held initiated slot question own later all given count all_are given_is count_is reads same becomes =
    let one : Becomes old (counted_slots held initiated slot own later count mid.stack (state_of mid)).machine new = record {
      machine = becomes.machine;
      far = becomes.far ∙ ap (λ (p : Parser). p.far) same;
      limits = (
        becomes.limits.0 ∙ ap (λ (p : Parser). p.region.most) same,
        (
          becomes.limits.1.0 ∙ ap (λ (p : Parser). p.text.most) same,
          (becomes.limits.1.1.0 ∙ ap (λ (p : Parser). p.markup) same, becomes.limits.1.1.1 ∙ ap (λ (p : Parser). p.items) same),
        ),
      );
    } in
    let two : Becomes old (counted_slots held initiated slot own later count old.stack (state_of mid)).machine new =
    subst (λ (k : List Frame). Becomes old (counted_slots held initiated slot own later count k (state_of mid)).machine new) (ap (λ (p : Parser). p.stack) same) one in
    let after : State = behind_question table (start.Inside old.inside) question (state_of old) in
    let three : Becomes old (counted_slots held initiated slot own later count old.stack after).machine new =
    subst (λ (s : State). Becomes old (counted_slots held initiated slot own later count old.stack s).machine new) reads two in
    let told : count ≡ count_told (given_by table (start.Inside old.inside) (question_at table question) (state_of old)) = count_is ∙ ap count_told given_is in
    let four : Becomes old (counted_slots held initiated slot own later
    (count_told (given_by table (start.Inside old.inside) (question_at table question) (state_of old))) old.stack after).machine new =
    subst (λ (c : Result (Option ℕ) ℕ). Becomes old (counted_slots held initiated slot own later c old.stack after).machine new) told three in
    subst (λ (slots : List Slot). Becomes old (count_slots table held initiated slot question slots old.stack (state_of old)).machine new) (sym all_are) four
