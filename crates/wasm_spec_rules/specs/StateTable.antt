-- In which order a module's payloads may be handed over, as a table: where a call that is accepted leads, and what a
-- call that is refused leaves. Core Specification 3.0, Binary Format, Modules, has the order of sections; that sections
-- are refused before the header and after the end is this validator's.
use Rattle.std.specs.Prelude.{ℕ, suc, Option, Some, None}

-- no header has been read; a module is being read; its code has started, and so many bodies are still to come; it has
-- ended; or something in it was refused, and nothing is said of it any more
pub data Phase : Type 0 where
  unparsed in_module : Phase
  in_code : ℕ → Phase
  ended failed : Phase

-- the calls: the header, a section other than those of code and data, one of items whose proposal is missing, the start
-- of the code with so many bodies, a body, the data section, a custom section, one of an unknown id, and the end
pub data Call : Type 0 where
  header section barred_section : Call
  code_start : ℕ → Call
  code_entry data_section custom unknown end : Call

abbrev pub accepted_to : Call → Phase → Option Phase
accepted_to header unparsed = Some in_module
accepted_to section in_module = Some in_module
accepted_to (code_start n) in_module = Some (in_code n)
accepted_to code_entry (in_code (suc n)) = Some (in_code n)
accepted_to data_section in_module = Some in_module
accepted_to data_section (in_code n) = Some (in_code n)
accepted_to custom g = Some g
accepted_to end in_module = Some ended
accepted_to end (in_code n) = Some ended
accepted_to _ _ = None

-- A refused section fails the module where it was its turn, and one whose proposal is missing wherever a module is being
-- read: that is told before its turn is asked for. An end is refused in a module for want of memory alone.
abbrev pub refused_to : Call → Phase → Phase
refused_to section in_module = failed
refused_to barred_section in_module = failed
refused_to barred_section (in_code n) = failed
refused_to (code_start n) in_module = failed
refused_to code_entry (in_code (suc n)) = failed
refused_to data_section in_module = failed
refused_to data_section (in_code n) = failed
refused_to end unparsed = ended
refused_to end in_module = failed
refused_to end (in_code n) = failed
refused_to _ g = g
