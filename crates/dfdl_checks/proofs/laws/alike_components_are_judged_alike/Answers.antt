use Rattle.std.proofs.Common.{ap}
use Rattle.dfdl_checks.proofs.Alike.{same-component}
use Rattle.dfdl_checks.specs.Boxes.{size_of_box}
use Rattle.dfdl_checks.specs.Delimiters.{delimiters_of}
use Rattle.dfdl_checks.specs.Framing.{framing_of}
use Rattle.dfdl_checks.specs.Keys.{key_expression, keys_of}
use Rattle.dfdl_checks.specs.Measures.{count_expression, measure_of}
use Rattle.dfdl_checks.specs.Numbers.{primitive_of}
use Rattle.dfdl_checks.specs.Occurrences.{occurrences_of}
use Rattle.dfdl_checks.specs.Patterns.{length_pattern, pattern_encoding, pattern_prefix}
use Rattle.dfdl_checks.specs.Prefixes.{prefix_of}
use Rattle.dfdl_checks.specs.Representations.{representations_of}
use Rattle.dfdl_checks.specs.Rules.{breach_of_component}
use Rattle.dfdl_checks.specs.Writings.{writing_of}
use Rattle.dfdl_checks.proofs.laws.alike_components_are_judged_alike.Goals as goal

pub returns-clause-breach : goal.returns-clause-breach
returns-clause-breach c = λ a b alike. ap breach_of_component (same-component a b alike)

pub returns-clause-primitive : goal.returns-clause-primitive
returns-clause-primitive c = λ a b alike. ap primitive_of (same-component a b alike)

pub returns-clause-representations : goal.returns-clause-representations
returns-clause-representations c = λ a b alike. ap representations_of (same-component a b alike)

pub returns-clause-framing : goal.returns-clause-framing
returns-clause-framing c = λ a b alike. ap framing_of (same-component a b alike)

pub returns-clause-delimiters : goal.returns-clause-delimiters
returns-clause-delimiters c = λ a b alike. ap delimiters_of (same-component a b alike)

pub returns-clause-size : goal.returns-clause-size
returns-clause-size c = λ a b alike. ap size_of_box (same-component a b alike)

pub returns-clause-prefix : goal.returns-clause-prefix
returns-clause-prefix c = λ a b alike. ap prefix_of (same-component a b alike)

pub returns-clause-text : goal.returns-clause-text
returns-clause-text c = λ a b alike. ap length_pattern (same-component a b alike)

pub returns-clause-encoding : goal.returns-clause-encoding
returns-clause-encoding c = λ a b alike. ap pattern_encoding (same-component a b alike)

pub returns-clause-pattern : goal.returns-clause-pattern
returns-clause-pattern c = λ a b alike. ap pattern_prefix (same-component a b alike)

pub returns-clause-occurrences : goal.returns-clause-occurrences
returns-clause-occurrences c = λ a b alike. ap occurrences_of (same-component a b alike)

pub returns-clause-measure : goal.returns-clause-measure
returns-clause-measure c = λ a b alike. ap measure_of (same-component a b alike)

pub returns-clause-count : goal.returns-clause-count
returns-clause-count c = λ a b alike. ap count_expression (same-component a b alike)

pub returns-clause-key : goal.returns-clause-key
returns-clause-key c = λ a b alike. ap key_expression (same-component a b alike)

pub returns-clause-keys : goal.returns-clause-keys
returns-clause-keys c = λ a b alike. ap keys_of (same-component a b alike)

pub returns-clause-writing : goal.returns-clause-writing
returns-clause-writing c = λ a b alike. ap writing_of (same-component a b alike)
