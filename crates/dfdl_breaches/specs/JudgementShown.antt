-- Mirror for the prover: what is told of a component, by what the rules see of it, the group that it hides and its settings.
use Rattle.std.specs.Prelude.{List, Option}
use Rattle.dfdl_checks.specs.Boxes.{size_of_box}
use Rattle.dfdl_checks.specs.Calculations.{calculation_of, output_of}
use Rattle.dfdl_checks.specs.Delimiters.{delimiters_of}
use Rattle.dfdl_checks.specs.Framing.{framing_of}
use Rattle.dfdl_checks.specs.Judged.{Judged}
use Rattle.dfdl_checks.specs.Keys.{key_expression, keys_of}
use Rattle.dfdl_checks.specs.Measures.{count_expression, measure_of}
use Rattle.dfdl_checks.specs.Numbers.{primitive_of}
use Rattle.dfdl_checks.specs.Occurrences.{is_count_parsed, occurrences_of}
use Rattle.dfdl_checks.specs.Representations.{representations_of}
use Rattle.dfdl_checks.specs.Rules.{breach_of_component}
use Rattle.dfdl_checks.specs.Standings.{initiates}
use Rattle.dfdl_checks.specs.Tests.{checks_of, tests_of}
use Rattle.dfdl_checks.specs.Writings.{writing_of}
use Rattle.dfdl_chains.specs.declared.settings.Setter.{Setter}
use Rattle.dfdl_components.specs.declared.site.Site.{Site}
use Rattle.dfdl_breaches.specs.Judging.{form_before, simple_told}
use Rattle.dfdl_breaches.specs.declared.judgement.Judgement.{Judgement}

-- what is told
abbrev pub judgement_of : Option Site → List Setter → Judged → Judgement
judgement_of hidden settings j = record {
  breach = breach_of_component j;
  primitive = primitive_of j;
  simple = simple_told j;
  framing = framing_of j;
  markup = delimiters_of j;
  size = size_of_box j;
  prefix = form_before j;
  others = representations_of j;
  occurs = occurrences_of j;
  is_parsed = is_count_parsed j;
  initiates = initiates j;
  tests = tests_of j;
  checks = checks_of j;
  output = output_of j;
  settings = settings;
  calculation = calculation_of j;
  measure = measure_of j;
  count = count_expression j;
  key = key_expression j;
  keys = keys_of j;
  writing = writing_of j;
  hidden = hidden;
}
