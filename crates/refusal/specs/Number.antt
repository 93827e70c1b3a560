-- The number that documents 01 and 02 give a refusal, and the one that an answer is told by: 0 where nothing was refused.
use Rattle.std.specs.Prelude.{ℕ, Result, Ok, Err}
use Rattle.refusal.specs.declared.Refusal.{Refusal}
use Rattle.refusal.specs.declared.Refusal.TheVariants as refusal

abbrev pub number_of : Refusal → ℕ
number_of refusal.SliceTooSmall = 1
number_of refusal.PacketTooShort = 2
number_of refusal.PacketTooLong = 3
number_of refusal.ControlMessage = 4
number_of refusal.SessionNotOpen = 5
number_of refusal.HeaderNotPlain = 6
number_of refusal.FlowOutside = 7
number_of refusal.NothingCarried = 9
number_of refusal.LengthsDisagree = 10
number_of refusal.ContentSpoilt = 11
number_of refusal.Late = 12
number_of refusal.TableBroken = 13
number_of refusal.SegmentOutside = 14
number_of refusal.NotVersion3 = 15
number_of refusal.OpenWithoutId = 21
number_of refusal.AlreadyOpen = 22
number_of refusal.AllRowsOpen = 23
number_of refusal.NumberUnknown = 24
number_of refusal.CloseOfNone = 25
number_of refusal.AddressOutside = 31
number_of refusal.LimitOutside = 32
number_of refusal.FramesUnsound = 33
number_of refusal.PositionOutside = 34
number_of refusal.NothingLeft = 35
number_of refusal.OutputTooSmall = 36
number_of refusal.FileTooLong = 41
number_of refusal.ContentsCut = 42
number_of refusal.TooManyEntries = 43
number_of refusal.EntryWrong = 44
number_of refusal.BodiesDoNotFill = 45
number_of refusal.MpegOutputTooSmall = 51
number_of refusal.FrameNotWritten = 52
number_of refusal.NoRunGivesIt = 53
number_of refusal.PcapHeaderWrong = 61
number_of refusal.RecordCut = 62
number_of refusal.ImportTooLarge = 63
number_of refusal.PcapOutputTooSmall = 64

abbrev pub code_of : Result (Unit {0}) Refusal → ℕ
code_of (Ok u) = 0
code_of (Err r) = number_of r
