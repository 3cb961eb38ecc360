-- What a device tells.
use Rattle.rvs_device.specs.DeviceFile.{Told}
use Rattle.rvs_device.specs.declared.devices.Device.{Device}

abbrev pub told : Device → Told
told device = record { name = device.name; command = device.command }
