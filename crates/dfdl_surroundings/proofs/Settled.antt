-- No answer is a wait, so no expression waits.
use Rattle.std.specs.Prelude.{ℕ, List, Option, Some, None, Result, Ok, Err, slice_get}
use Rattle.dfdl_value.specs.declared.value.Value.{Value}
use Rattle.dfdl_expressions.specs.declared.operator.Extent.{Extent}
use Rattle.dfdl_expression_eval.specs.Asks.{Asks, Is, Fails, Ask, IsSettled, Query, Item, Count, Length, Variable, OccursIndex, gives, on_known}
use Rattle.dfdl_expression_eval.specs.declared.env.Evaluated.{Evaluated}
use Rattle.dfdl_expression_eval.specs.declared.env.Evaluated.TheVariants.{Known, Wait, Fault}
use Rattle.dfdl_paths.specs.declared.found.Found.{Found}
use Rattle.dfdl_paths.specs.declared.found.Found.TheVariants as found
use Rattle.dfdl_paths.specs.Values.{found_of, found_value}
use Rattle.dfdl_region.specs.declared.node.Lengths.{Lengths}
use Rattle.dfdl_region.specs.declared.node.Node.{Node}
use Rattle.dfdl_surroundings.specs.Around.{Around}
use Rattle.dfdl_surroundings.specs.Answers.{answer_in, found_length, items_of, length_told, lengths_of, told, told_or, variable_value}

of_told : (value : Result Value ℕ) → IsSettled (told value)
of_told (Ok value) = tt
of_told (Err cause) = tt

of_told_or : (cause : ℕ) (value : Option Value) → IsSettled (told_or cause value)
of_told_or cause None = tt
of_told_or cause (Some value) = tt

of_length : (extent : Extent) (lengths : Option Lengths) → IsSettled (length_told extent lengths)
of_length extent None = tt
of_length extent (Some lengths) = tt

of_found : (nodes : List Node) (extent : Extent) (it : Found) → IsSettled (found_length nodes extent it)
of_found nodes extent found.None = tt
of_found nodes extent (found.One number) = of_length extent (lengths_of (slice_get nodes number))
of_found nodes extent found.Several = tt

of_answer : (around : Around) (query : Query) → IsSettled (answer_in around query)
of_answer around (Item path places) =
    of_told (found_value around.seen.nodes around.seen.text (found_of (items_of around.seen path places)))
of_answer around (Count path places) = tt
of_answer around (Length path places extent) = of_found around.seen.nodes extent (found_of (items_of around.seen path places))
of_answer around (Variable number) = of_told_or 7 (variable_value around.variables number)
of_answer around OccursIndex = tt

on_settled : (e : Evaluated) (go : Value → Evaluated) → IsSettled e → ((v : Value) → IsSettled (go v)) → IsSettled (on_known e go)
on_settled (Known value) go settled each = each value
on_settled (Wait unknown) go settled each = settled
on_settled (Fault cause) go settled each = tt

pub gives_settled : (around : Around) (asks : Asks) → IsSettled (gives asks (answer_in around))
gives_settled around (Is value) = tt
gives_settled around (Fails cause) = tt
gives_settled around (Ask query more) =
    on_settled (answer_in around query) (λ v. gives (more v) (answer_in around)) (of_answer around query) (λ v. gives_settled around (more v))
