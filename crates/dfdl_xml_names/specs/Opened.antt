-- Mirror for the prover: the frames that open elements are seen as.
use Rattle.std.specs.Prelude.{List, [], ◌∷◌, ◌++◌}
use Rattle.dfdl_markup.specs.Machine.{Frame, scope_of}
use Rattle.dfdl_xml_names.specs.Shown.{name_of}
use Rattle.dfdl_xml_names.specs.declared.element.Element.{Element}

-- the frame of an element inside of others
abbrev pub frame_in : List Frame → Element → Frame
frame_in frames element = record {
  name = name_of element.name;
  scope = element.declared ++ scope_of frames;
}

-- the frames behind elements that were opened inside of these, one inside of the other
abbrev pub frames_on : List Frame → List Element → List Frame
frames_on frames [] = frames
frames_on frames (element ∷ elements) = frames_on (frame_in frames element ∷ frames) elements
