-- What stands in a line, and what a call's answer is to it.
use Rattle.std.specs.Prelude.{◌≡◌, ◌≤◌, ◌<◌, ⊤, ℕ, List, [], ◌∷◌, length, Some, None, Option}
use Rattle.std.specs.Str.{IsUtf8}
use Rattle.survey.specs.declared.call.Answer.{Answer}
use Rattle.gauge.specs.declared.lines.Line.{Line}
use Rattle.gauge.specs.declared.lines.Line.TheVariants.{Passed, TooLong, NotText, Text}
use Rattle.gauge.specs.declared.lines.TheConstants.{LONGEST_LINE}
use Rattle.gauge.specs.declared.reply.Reply.{Reply}
use Rattle.gauge.specs.declared.reply.Reply.TheVariants as of_reply

-- nothing, or a remark, which begins with #
abbrev pub IsRemark : List ℕ → Type 0
IsRemark [] = ⊤
IsRemark (b ∷ _) = b ≡ 35

-- what stands in the bytes of a line, without its line feed
abbrev pub IsLine : List ℕ → Line → Type 0
IsLine bytes Passed = IsRemark bytes
IsLine bytes TooLong = (IsRemark bytes → ⊥) × (LONGEST_LINE < length bytes)
IsLine bytes NotText = (IsRemark bytes → ⊥) × (length bytes ≤ LONGEST_LINE) × (IsUtf8 bytes → ⊥)
IsLine bytes (Text text) = (IsRemark bytes → ⊥) × (length bytes ≤ LONGEST_LINE) × (text.now ≡ bytes)

-- a call that the state does not allow answers nothing
abbrev pub reply_to : Option Answer → Reply
reply_to (Some a) = of_reply.Answer a
reply_to None = of_reply.NotAllowed
