-- What the reading of a string is, by the reading of its text.
use Rattle.std.specs.Prelude.{ℕ, ◌≤◌}
use Rattle.dfdl_looks.specs.Asks.{Reached, Told, TooFar, Missing}
use Rattle.dfdl_terms.specs.declared.text.TextForm.{TextForm}
use Rattle.dfdl_texts.specs.Texts.{Text}
use Rattle.dfdl_texts.specs.declared.found.Found.{Found}
use Rattle.dfdl_texts.specs.declared.found.Found.TheVariants.{Reads, HasBad, IsCut, IsBoxed, TooFar as Past, NotYet}
use Rattle.dfdl_grammar.specs.Leaves.{Find, text_find}

-- what is made of what a reading comes to
abbrev pub made_of : {F : Type 0} → (F → Find) → Reached F → Reached Find
made_of find (Told told) = Told (find told)
made_of find TooFar = TooFar
made_of find Missing = Missing

-- what a string comes to whose box begins at a bit, by what its text comes to
abbrev pub text_reached : TextForm → ℕ → Reached Text → Reached Find
text_reached form bit (Told text) = Told (text_find form bit text)
text_reached form bit TooFar = TooFar
text_reached form bit Missing = Missing

-- a text that is read ends at this byte or before it
abbrev pub EndsBefore : Found → ℕ → Type 0
EndsBefore (Reads end) last = end ≤ last
EndsBefore HasBad last = Unit {0}
EndsBefore IsCut last = Unit {0}
EndsBefore IsBoxed last = Unit {0}
EndsBefore Past last = Unit {0}
EndsBefore NotYet last = Unit {0}
