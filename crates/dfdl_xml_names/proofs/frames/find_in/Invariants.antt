use Rattle.std.specs.Prelude.{◌≡◌, ◌≤◌, length, take, []}
use Rattle.std.specs.Str.{chars}
use Rattle.dfdl_markup.specs.Values.{found}
use Rattle.dfdl_markup.specs.Machine.{scope_of}
use Rattle.dfdl_xml_names.specs.Opened.{frames_on}
use Rattle.dfdl_xml_names.proofs.frames.find_in.Given as goal

abbrev pub invariant-loop-at : goal.invariant-loop-at
invariant-loop-at l =
    (l.at ≤ length l.elements)
    × (found (scope_of (frames_on [] (take l.at l.elements))) (chars l.prefix)
    ≡ found (scope_of (frames_on [] l.elements)) (chars l.prefix))

abbrev pub decreases-loop-at : goal.decreases-loop-at
decreases-loop-at l = l.at
