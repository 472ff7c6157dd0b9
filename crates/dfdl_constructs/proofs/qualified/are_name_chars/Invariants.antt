use Rattle.std.proofs.Common.{◌≡◌, drop, length, chars}
use Rattle.std.specs.List.{list_all}
use Rattle.dfdl_xml_chars.specs.Characters.{is_name_char}
use Rattle.dfdl_constructs.proofs.qualified.are_name_chars.Given as goal

-- the characters that are left answer the same as all
abbrev pub invariant-loop-c : goal.invariant-loop-c
invariant-loop-c l =
    list_all is_name_char (drop (length l.yielded) (chars l.text)) ≡ list_all is_name_char (chars l.text)
