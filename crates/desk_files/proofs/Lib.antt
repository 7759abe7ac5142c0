mod Reasons
