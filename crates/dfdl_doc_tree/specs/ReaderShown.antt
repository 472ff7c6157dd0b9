-- Mirror for the prover: the state that a reader stands for.
use Rattle.std.specs.Prelude.{◌≡◌, ℕ, ◌+◌, length, Result, Ok, Err}
use Rattle.dfdl_layers.specs.Bytes.{Inside}
use Rattle.dfdl_xml_chars.specs.Shown.{bytes_of}
use Rattle.dfdl_xml_chars.specs.declared.begun.Taken.{Taken}
use Rattle.dfdl_xml_chars.specs.declared.begun.Taken.TheVariants.{Whole, Part, Bad}
use Rattle.dfdl_markup.specs.Building as building
use Rattle.dfdl_doc_tree.specs.Shown.{rule_number}
use Rattle.dfdl_doc_tree.specs.ScannerShown.{state_seen}
use Rattle.dfdl_doc_tree.specs.declared.reader.Reader.{Reader}
use Rattle.dfdl_doc_tree.specs.declared.rule.Refusal.{Refusal}
use Rattle.dfdl_doc_tree.specs.declared.rule.Refusal.TheVariants.{Broken, OutOfMemory}

-- the state over characters
abbrev pub reader_seen : Reader → building.Reader
reader_seen r = record { state = state_seen r.scanner; built = r.growing }

-- the state over bytes
abbrev pub inside_seen : Reader → Inside building.Reader
inside_seen r = record { state = reader_seen r; read = bytes_of r.begun }

-- what a step answers: want of memory says nothing
abbrev pub Becomes : {S : Type 0} → Result S ℕ → Result (Unit {0}) Refusal → S → Type 0
Becomes next (Ok done) s = next ≡ Ok s
Becomes next (Err (Broken rule)) s = next ≡ Err (rule_number rule)
Becomes next (Err OutOfMemory) s = Unit {0}

-- the property holds of the character, if the bytes are a whole one
abbrev pub IfWhole : Taken → (ℕ → Type 0) → Type 0
IfWhole (Whole c) P = P c
IfWhole (Part begun) P = Unit {0}
IfWhole Bad P = Unit {0}

-- how many bytes are read
abbrev pub count_of : Reader → ℕ
count_of r = r.growing.at + length (bytes_of r.begun)
