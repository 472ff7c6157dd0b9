use Rattle.dfdl_checks.proofs.SoundDelimiters.{has-initiator, has-separator, has-terminator, in-encoding, separator-in-encoding}
use Rattle.dfdl_checks.proofs.laws.sound_components_have_delimiters.Goals as goal

pub returns-clause-initiator : goal.returns-clause-initiator
returns-clause-initiator c = has-initiator

pub returns-clause-terminator : goal.returns-clause-terminator
returns-clause-terminator c = has-terminator

pub returns-clause-separator : goal.returns-clause-separator
returns-clause-separator c = has-separator

pub returns-clause-encoded : goal.returns-clause-encoded
returns-clause-encoded c = in-encoding

pub returns-clause-encoded_separator : goal.returns-clause-encoded_separator
returns-clause-encoded_separator c = separator-in-encoding
