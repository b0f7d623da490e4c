-- Commands and replies as bytes.
use Rattle.std.specs.Prelude.{ℕ, List, [], ◌∷◌, ◌++◌, Result, Ok, Err, nat_le, ◌==◌, ◌&&◌, if◌then◌else◌}
use Rattle.byteorder.specs.Endian.{big_bytes}
use Rattle.ens_base.specs.declared.command.Command.{Command}
use Rattle.ens_base.specs.declared.command.Command.TheVariants as commands
use Rattle.ens_base.specs.declared.reply.Reply.{Reply}
use Rattle.ens_base.specs.declared.reply.Reply.TheVariants as replies
use Rattle.fields.specs.declared.field_error.FieldError.{FieldError}
use Rattle.fields.specs.declared.field_error.FieldError.TheVariants.{Rule}
use Rattle.ens_base.specs.Results.{◌>>=◌}
use Rattle.fields.specs.Numbers.{byte_at, number_at}
use Rattle.ens_base.specs.Limits.{IsVersion, IsKey, IsValue, IsCommand}
use Rattle.fields.specs.Versions.{version_spelling, version_at}
use Rattle.fields.specs.Strings.{key_spelling, key_at, value_spelling, value_at}
use Rattle.wire_frames.specs.Readers.{both, made}

abbrev pub command_tag : Command → ℕ
command_tag commands.Get = 1
command_tag (commands.PutOnce value) = 2
command_tag (commands.Update stamp value) = 3
command_tag (commands.Append value) = 4
command_tag (commands.Add number) = 5
command_tag (commands.Swap old new) = 6
command_tag (commands.Over value) = 7
command_tag commands.Delete = 8

-- what follows the key
abbrev pub arguments_spelling : Command → List ℕ
arguments_spelling commands.Get = []
arguments_spelling (commands.PutOnce value) = value_spelling value
arguments_spelling (commands.Update stamp value) = version_spelling stamp ++ value_spelling value
arguments_spelling (commands.Append value) = value_spelling value
arguments_spelling (commands.Add number) = big_bytes 8 number
arguments_spelling (commands.Swap old new) = value_spelling old ++ value_spelling new
arguments_spelling (commands.Over value) = value_spelling value
arguments_spelling commands.Delete = []

unfoldable pub once_at : List ℕ → ℕ → Result (Command × ℕ) FieldError
once_at bytes at = made commands.PutOnce value_at bytes at

unfoldable pub update_at : List ℕ → ℕ → Result (Command × ℕ) FieldError
update_at bytes at = made (λ x. commands.Update x.0 x.1) (both version_at value_at) bytes at

unfoldable pub append_at : List ℕ → ℕ → Result (Command × ℕ) FieldError
append_at bytes at = made commands.Append value_at bytes at

unfoldable pub add_at : List ℕ → ℕ → Result (Command × ℕ) FieldError
add_at bytes at = made commands.Add (number_at 8) bytes at

unfoldable pub swap_at : List ℕ → ℕ → Result (Command × ℕ) FieldError
swap_at bytes at = made (λ x. commands.Swap x.0 x.1) (both value_at value_at) bytes at

unfoldable pub over_at : List ℕ → ℕ → Result (Command × ℕ) FieldError
over_at bytes at = made commands.Over value_at bytes at

-- the arguments of the command with this tag, which stands at `start`
unfoldable pub arguments_at : ℕ → ℕ → List ℕ → ℕ → Result (Command × ℕ) FieldError
arguments_at tag start bytes at = if tag == 1 then Ok (commands.Get, at) else (if tag == 2 then once_at bytes at else (if tag == 3 then update_at bytes at else (if tag == 4 then append_at bytes at else (if tag == 5 then add_at bytes at else (if tag == 6 then swap_at bytes at else (if tag == 7 then over_at bytes at else (if tag == 8 then Ok (commands.Delete, at) else Err (Rule start))))))))

-- a key and what is asked of its register
abbrev pub IsCall : List ℕ × Command → Type 0
IsCall x = IsKey x.0 × IsCommand x.1

-- the tag of the command, the key, and the arguments
abbrev pub call_spelling : List ℕ × Command → List ℕ
call_spelling x = command_tag x.1 ∷ [] ++ key_spelling x.0 ++ arguments_spelling x.1

unfoldable pub call_at : List ℕ → ℕ → Result ((List ℕ × Command) × ℕ) FieldError
call_at bytes at = do
  tag ← byte_at bytes at
  if nat_le 1 tag.0 && nat_le tag.0 8 then both key_at (arguments_at tag.0 at) bytes tag.1 else Err (Rule at)

abbrev pub IsReply : Reply → Type 0
IsReply (replies.Value stamp value) = IsVersion stamp × IsValue value
IsReply replies.NotFound = Unit {0}
IsReply (replies.Ok stamp) = IsVersion stamp
IsReply replies.Failed = Unit {0}
IsReply replies.Unavailable = Unit {0}
IsReply replies.Busy = Unit {0}
IsReply replies.Lost = Unit {0}
IsReply replies.Timeout = Unit {0}

abbrev pub reply_tag : Reply → ℕ
reply_tag (replies.Value stamp value) = 1
reply_tag replies.NotFound = 2
reply_tag (replies.Ok stamp) = 3
reply_tag replies.Failed = 4
reply_tag replies.Unavailable = 5
reply_tag replies.Busy = 6
reply_tag replies.Lost = 7
reply_tag replies.Timeout = 8

-- what follows the tag
abbrev pub reply_rest : Reply → List ℕ
reply_rest (replies.Value stamp value) = version_spelling stamp ++ value_spelling value
reply_rest replies.NotFound = []
reply_rest (replies.Ok stamp) = version_spelling stamp
reply_rest replies.Failed = []
reply_rest replies.Unavailable = []
reply_rest replies.Busy = []
reply_rest replies.Lost = []
reply_rest replies.Timeout = []

-- a tag, and a stamp and a value where there are any
abbrev pub reply_spelling : Reply → List ℕ
reply_spelling reply = reply_tag reply ∷ reply_rest reply

unfoldable pub value_reply_at : List ℕ → ℕ → Result (Reply × ℕ) FieldError
value_reply_at bytes at = made (λ x. replies.Value x.0 x.1) (both version_at value_at) bytes at

unfoldable pub ok_reply_at : List ℕ → ℕ → Result (Reply × ℕ) FieldError
ok_reply_at bytes at = made replies.Ok version_at bytes at

unfoldable pub tagged_reply_at : ℕ → ℕ → List ℕ → ℕ → Result (Reply × ℕ) FieldError
tagged_reply_at tag start bytes at = if tag == 1 then value_reply_at bytes at else (if tag == 2 then Ok (replies.NotFound, at) else (if tag == 3 then ok_reply_at bytes at else (if tag == 4 then Ok (replies.Failed, at) else (if tag == 5 then Ok (replies.Unavailable, at) else (if tag == 6 then Ok (replies.Busy, at) else (if tag == 7 then Ok (replies.Lost, at) else (if tag == 8 then Ok (replies.Timeout, at) else Err (Rule start))))))))

unfoldable pub reply_at : List ℕ → ℕ → Result (Reply × ℕ) FieldError
reply_at bytes at = do
  tag ← byte_at bytes at
  tagged_reply_at tag.0 at bytes tag.1
